-- The law is the lemma.
use Rattle.phase_laws.proofs.Together.{have_laws}
use Rattle.phase_laws.proofs.jobs_have_laws.Goals as goal

pub returns : goal.returns
returns c = have_laws
