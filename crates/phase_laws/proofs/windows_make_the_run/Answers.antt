-- The law is the lemma.
use Rattle.phase_laws.proofs.Windows.{windows_make}
use Rattle.phase_laws.proofs.windows_make_the_run.Goals as goal

pub returns : goal.returns
returns c = windows_make
