-- The law is the lemma.
use Rattle.phase_laws.proofs.Reached.{reached_have_laws}
use Rattle.phase_laws.proofs.reached_have_laws.Goals as goal

pub returns : goal.returns
returns c = reached_have_laws
