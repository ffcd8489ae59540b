-- The law is the lemma.
use Rattle.phase_laws.proofs.Programs.{are_disciplined}
use Rattle.phase_laws.proofs.programs_are_disciplined.Goals as goal

pub returns : goal.returns
returns c = are_disciplined
