use Rattle.schedule_search.proofs.Way.{finished}
use Rattle.schedule_search.proofs.replay.finished.Goals as goal

pub returns-clause-valid : goal.returns-clause-valid
returns-clause-valid c = finished c.args.draft c.finish.result c.requires.under c.requires.done c.finish.ensures
