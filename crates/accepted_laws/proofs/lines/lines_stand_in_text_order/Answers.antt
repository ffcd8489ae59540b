use Rattle.accepted_laws.proofs.Trees.{stand_in_order}
use Rattle.accepted_laws.proofs.Elaborated.{elaborated_in_order}
use Rattle.accepted_laws.proofs.lines.lines_stand_in_text_order.Goals as goal

pub returns-clause-resolved : goal.returns-clause-resolved
returns-clause-resolved c = stand_in_order

pub returns-clause-elaborated : goal.returns-clause-elaborated
returns-clause-elaborated c = elaborated_in_order
