-- The law is the lemma.
use Rattle.phase_laws.proofs.Reached.{own_parts_agree}
use Rattle.phase_laws.proofs.own_parts_agree.Goals as goal

pub returns : goal.returns
returns c = own_parts_agree
