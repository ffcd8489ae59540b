use Rattle.trace_events.proofs.Slices.{each_act_once}
use Rattle.trace_events.proofs.laws.each_act_is_shown_once.Goals as goal

pub returns : goal.returns
returns c = each_act_once
