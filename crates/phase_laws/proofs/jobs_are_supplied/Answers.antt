-- The law is the lemma.
use Rattle.phase_laws.proofs.Together.{jobs_are_supplied}
use Rattle.phase_laws.proofs.jobs_are_supplied.Goals as goal

pub returns : goal.returns
returns c = jobs_are_supplied
