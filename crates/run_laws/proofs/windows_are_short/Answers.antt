use Rattle.run_laws.proofs.Texts.{windows_short}
use Rattle.run_laws.proofs.windows_are_short.Goals as goal

pub returns : goal.returns
returns c = windows_short
