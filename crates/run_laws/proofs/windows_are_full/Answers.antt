use Rattle.run_laws.proofs.Texts.{windows_full}
use Rattle.run_laws.proofs.windows_are_full.Goals as goal

pub returns : goal.returns
returns c = windows_full
