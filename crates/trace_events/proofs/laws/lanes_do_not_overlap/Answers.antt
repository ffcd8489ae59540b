use Rattle.trace_events.proofs.Lanes.{one_after_another}
use Rattle.trace_events.proofs.laws.lanes_do_not_overlap.Goals as goal

pub returns : goal.returns
returns c = one_after_another
