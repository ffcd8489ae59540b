-- The law is the lemma.
use Rattle.phase_laws.proofs.AgreeLaws.{jobs_are_formed}
use Rattle.phase_laws.proofs.agree.jobs_are_formed.Goals as goal

pub returns : goal.returns
returns c = jobs_are_formed
