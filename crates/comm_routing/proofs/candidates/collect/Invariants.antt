use Rattle.std.proofs.Common.{◌≡◌, ◌≤◌, ◌++◌, drop, length, take}
use Rattle.comm_routing.specs.Candidates.{places_from}
use Rattle.comm_routing.proofs.candidates.collect.Given as goal

-- what is there, with what is left, is the whole
abbrev pub invariant-loop-op : goal.invariant-loop-op
invariant-loop-op l = record {
  size : length l.ready ≡ length l.flags;
  count : l.count ≤ l.op;
  left : take l.count l.ready ++ places_from l.op (drop l.op l.flags) ≡ places_from 0 l.flags;
}
