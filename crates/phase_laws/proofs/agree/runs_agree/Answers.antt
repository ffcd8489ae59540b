-- The law is the lemma.
use Rattle.phase_laws.proofs.AgreeRuns.{runs_agree}
use Rattle.phase_laws.proofs.agree.runs_agree.Goals as goal

pub returns : goal.returns
returns c = runs_agree
