use Rattle.durations.proofs.Fitted.{durations_fit}
use Rattle.durations.proofs.laws.durations_fit.Goals as goal

pub returns : goal.returns
returns c = durations_fit
