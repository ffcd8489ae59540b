use Rattle.std.proofs.Common.{◌≡◌, ◌++◌, drop}
use Rattle.comm_routing.specs.Start.{all_lens}
use Rattle.comm_routing.proofs.start.lens.Given as goal

-- what is left makes the whole
abbrev pub invariant-loop-vertex : goal.invariant-loop-vertex
invariant-loop-vertex l = l.lens.items ++ all_lens (drop l.vertex-index l.vertices) ≡ all_lens l.vertices
