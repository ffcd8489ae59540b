use Rattle.std.proofs.Common.{◌≡◌, ◌≤◌, ◌*◌, ◌++◌, drop}
use Rattle.comm_routing.specs.Start.{firsts_from}
use Rattle.comm_routing.proofs.start.firsts.Given as goal

-- what is left makes the whole
abbrev pub invariant-loop-vertex : goal.invariant-loop-vertex
invariant-loop-vertex l = record {
  left : l.firsts.items ++ firsts_from l.first (drop l.vertex-index l.vertices) ≡ firsts_from 0 l.vertices;
  low : l.first ≤ 64 * l.vertex-index;
}
