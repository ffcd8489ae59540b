-- The law is the lemma.
use Rattle.phase_laws.proofs.Ended.{runs_end}
use Rattle.phase_laws.proofs.runs_end.Goals as goal

pub returns : goal.returns
returns c = runs_end
