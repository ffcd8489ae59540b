use Rattle.std.proofs.Common.{◌≡◌, ◌+◌, drop}
use Rattle.flat_graph.specs.Level.{selected}
use Rattle.graph_code.proofs.fire.selected.Given as goal

-- none of the cases so far
abbrev pub invariant-loop-case : goal.invariant-loop-case
invariant-loop-case l = l.case + selected (drop l.case l.values) l.vector ≡ selected l.values l.vector
