use Rattle.std.proofs.Common.{◌≡◌, ◌+◌, drop}
use Rattle.algo_tree.specs.Level.{selected}
use Rattle.sync_meaning.proofs.values.selected.Given as goal

abbrev pub invariant-loop-case : goal.invariant-loop-case
invariant-loop-case l = l.case + selected (drop l.case l.values) l.vector ≡ selected l.values l.vector
