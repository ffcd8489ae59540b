use Rattle.durations.proofs.Kept.{accepted}
use Rattle.durations.proofs.laws.accepted_are_durations.Goals as goal

pub returns : goal.returns
returns c = accepted
