use Rattle.word_rule.specs.Given.{enables}
use Rattle.word_rule.proofs.table.WordTable.take.Given as goal

abbrev pub ghosts-take_by : goal.ghosts-take_by
ghosts-take_by a = record { seq = a.next.seq; enables = enables a.next.reaction a.next.step }
