use Rattle.std.specs.Prelude.{◌%◌, nat_eq}
use Rattle.word_rule.proofs.table.WordTable.split.Given as goal

abbrev pub ghosts-split_by : goal.ghosts-split_by
ghosts-split_by a = record { test = λ s. nat_eq (s % a.groups) a.group }
