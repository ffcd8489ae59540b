use Rattle.schedule.proofs.Starts.{no_entry}
use Rattle.schedule.proofs.line.no_places.Goals as goal

pub returns-clause-none : goal.returns-clause-none
returns-clause-none c = λ v. no_entry 2048 v
