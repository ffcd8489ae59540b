use Rattle.level_meaning.proofs.InOrder.{acyclic-in_order}
use Rattle.level_meaning.proofs.laws.no_cycle_in_order.Goals as goal

pub returns : goal.returns
returns c = acyclic-in_order
