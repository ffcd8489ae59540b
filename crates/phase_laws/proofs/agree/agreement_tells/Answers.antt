-- The law is the lemma.
use Rattle.phase_laws.proofs.AgreeTells.{agreement_tells}
use Rattle.phase_laws.proofs.agree.agreement_tells.Goals as goal

pub returns : goal.returns
returns c = agreement_tells
