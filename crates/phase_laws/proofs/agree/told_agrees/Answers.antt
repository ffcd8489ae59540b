-- The law is the lemma.
use Rattle.phase_laws.proofs.AgreeTold.{told_agrees}
use Rattle.phase_laws.proofs.agree.told_agrees.Goals as goal

pub returns : goal.returns
returns c = told_agrees
