use Rattle.std.specs.Prelude.{◌≡◌, map}
use Rattle.word_table.proofs.weaving.items_of.Given as goal

abbrev pub invariant-loop-list : goal.invariant-loop-list
invariant-loop-list l = l.all.items ≡ map (λ x. x.items) l.yielded
