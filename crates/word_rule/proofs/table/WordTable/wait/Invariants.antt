use Rattle.word_rule.specs.Given.{enables}
use Rattle.word_rule.proofs.table.WordTable.wait.Given as goal

abbrev pub ghosts-wait_by : goal.ghosts-wait_by
ghosts-wait_by a = record { seq = a.next.seq; enables = enables a.next.reaction a.next.step }
