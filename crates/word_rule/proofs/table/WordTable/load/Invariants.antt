use Rattle.std.specs.Prelude.{true}
use Rattle.word_rule.proofs.table.WordTable.load.Given as goal

abbrev pub ghosts-load_by : goal.ghosts-load_by
ghosts-load_by a = record { seq = a.next.seq; enables = λ n. true }
