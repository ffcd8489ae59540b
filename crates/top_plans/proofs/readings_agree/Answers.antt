use Rattle.top_plans.proofs.Values.{readings_agree}
use Rattle.top_plans.proofs.readings_agree.Goals as goal

pub returns : goal.returns
returns c = readings_agree
