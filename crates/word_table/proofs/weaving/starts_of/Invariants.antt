use Rattle.std.specs.Prelude.{◌≡◌, ◌++◌, drop}
use Rattle.word_table.specs.Weaving.{starts_from, end_from}
use Rattle.word_table.proofs.weaving.starts_of.Given as goal

abbrev pub invariant-loop-list : goal.invariant-loop-list
invariant-loop-list l = (l.starts.items ++ starts_from l.next (drop l.list-index l.elements) ≡ starts_from l.first l.elements)
    × (end_from l.next (drop l.list-index l.elements) ≡ end_from l.first l.elements)
