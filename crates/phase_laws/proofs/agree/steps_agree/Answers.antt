-- The law is the lemma.
use Rattle.phase_laws.proofs.AgreeRuns.{steps_agree}
use Rattle.phase_laws.proofs.agree.steps_agree.Goals as goal

pub returns : goal.returns
returns c = λ j f z w s a. steps_agree j f z w a s
