use Rattle.trace_events.proofs.DatesShown.{each_date_once}
use Rattle.trace_events.proofs.dates_laws.each_date_is_shown_once.Goals as goal

pub returns : goal.returns
returns c = each_date_once
