-- The law is the lemma.
use Rattle.phase_laws.proofs.Ended.{full_is_ended}
use Rattle.phase_laws.proofs.full_is_ended.Goals as goal

pub returns : goal.returns
returns c = full_is_ended
