use Rattle.std.specs.Prelude.{true}
use Rattle.word_rule.proofs.table.WordTable.store.Given as goal

abbrev pub ghosts-store_by : goal.ghosts-store_by
ghosts-store_by a = record { seq = a.next.seq; enables = λ n. true }
