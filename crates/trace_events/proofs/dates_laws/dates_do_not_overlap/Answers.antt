use Rattle.trace_events.proofs.Overlap.{dates_one_after_another}
use Rattle.trace_events.proofs.dates_laws.dates_do_not_overlap.Goals as goal

pub returns : goal.returns
returns c = dates_one_after_another
