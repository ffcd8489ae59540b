use Rattle.schedule.proofs.Starts.{no_entry}
use Rattle.schedule.proofs.window.nothing_held.Goals as goal

pub returns-clause-none : goal.returns-clause-none
returns-clause-none c = λ v. no_entry 16384 v
