use Rattle.std.proofs.Common.{◌≡◌, ◌+◌, drop}
use Rattle.level_meaning.specs.Level.{selected}
use Rattle.flat_graph.proofs.operation.selected.Given as goal

-- none of the cases so far
abbrev pub invariant-loop-case : goal.invariant-loop-case
invariant-loop-case l = l.case + selected (drop l.case l.values) l.vector ≡ selected l.values l.vector
