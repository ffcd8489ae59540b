use Rattle.std.proofs.Common.{◌∙◌}
use Rattle.self_timed.proofs.StatedDates.{period_is}
use Rattle.self_timed.proofs.stated.schedule_period.Goals as goal

pub returns : goal.returns
returns c = c.period_of.ensures ∙ period_is c.args.flat.now c.args.archi.now c.args.schedule.now c.requires.valid c.args.reactions c.in_ok-dates.dates c.in_ok-dates.ensures
