use Rattle.std.proofs.Common.{◌≡◌, ◌≤◌, drop}
use Rattle.flat_graph.specs.Valid.{kinds_of, actuators_from}
use Rattle.flat_graph.proofs.numbering.are_actuators_numbered.Given as goal

-- the operations that are left decide
abbrev pub invariant-loop-vertex : goal.invariant-loop-vertex
invariant-loop-vertex l = record {
  left : actuators_from l.next (kinds_of (drop l.vertex-index l.vertices)) ≡ actuators_from 0 (kinds_of l.vertices);
  few : l.next ≤ l.vertex-index;
}
