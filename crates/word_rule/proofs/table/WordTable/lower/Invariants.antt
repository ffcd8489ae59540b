use Rattle.std.specs.Prelude.{true}
use Rattle.word_rule.proofs.table.WordTable.lower.Given as goal

abbrev pub ghosts-lower_by : goal.ghosts-lower_by
ghosts-lower_by a = record { seq = a.next.seq; enables = λ n. true }
