use Rattle.multi_period.proofs.Main.{unmarked-stays}
use Rattle.multi_period.proofs.laws.unmarked_trees_stay.Goals as goal

pub returns : goal.returns
returns c = unmarked-stays
