use Rattle.run_laws.proofs.Texts.{windows_tell}
use Rattle.run_laws.proofs.windows_tell_the_run.Goals as goal

pub returns : goal.returns
returns c = windows_tell
