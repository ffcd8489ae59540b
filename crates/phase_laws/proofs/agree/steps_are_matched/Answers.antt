-- The law is the lemma.
use Rattle.phase_laws.proofs.AgreeSteps.{steps_matched}
use Rattle.phase_laws.proofs.agree.steps_are_matched.Goals as goal

pub returns : goal.returns
returns c = steps_matched
