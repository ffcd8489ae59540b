use Rattle.std.proofs.Common.{◌≡◌, ◌≤◌, ◌++◌, drop, length, take}
use Rattle.comm_routing.specs.Ascending.{without_place}
use Rattle.comm_routing.proofs.ascending.take_out.Given as goal

-- what is left makes the whole
abbrev pub invariant-loop-place : goal.invariant-loop-place
invariant-loop-place l = record {
  size : length l.ready ≡ length l.fn.ready;
  within : l.left ≤ l.place;
  left : take l.left l.ready ++ without_place l.op (drop l.place (take l.count l.ready)) ≡ without_place l.op (take l.count l.fn.ready);
}
