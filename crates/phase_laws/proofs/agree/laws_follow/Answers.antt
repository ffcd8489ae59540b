-- The law is the lemma.
use Rattle.phase_laws.proofs.AgreeLaws.{laws_follow}
use Rattle.phase_laws.proofs.agree.laws_follow.Goals as goal

pub returns : goal.returns
returns c = laws_follow
