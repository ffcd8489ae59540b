use Rattle.std.proofs.Common.{◌≡◌, ◌++◌, drop, length, take}
use Rattle.comm_routing.specs.Ascending.{with_place}
use Rattle.comm_routing.proofs.ascending.put_in.Given as goal

-- what is left makes the whole
abbrev pub invariant-loop-place : goal.invariant-loop-place
invariant-loop-place l = record {
  size : length l.ready ≡ length l.fn.ready;
  left : take l.place l.ready ++ with_place l.later (drop l.place (take l.count l.ready)) ≡ with_place l.op (take l.count l.fn.ready);
}
