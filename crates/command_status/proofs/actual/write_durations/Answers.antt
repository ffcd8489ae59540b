use Rattle.command_status.proofs.actual.write_durations.Goals as goal

pub returns-in-Longer : goal.returns-in-Longer
returns-in-Longer g c = rw (c.in-Longer.is, ← c.as_bytes.ensures.same) c.write_named.ensures

pub returns-in-Missing : goal.returns-in-Missing
returns-in-Missing g c = rw (c.in-Missing.is, ← c.as_bytes-in-Missing.ensures.same) c.write_named-in-Missing.ensures

pub returns-in-Differs : goal.returns-in-Differs
returns-in-Differs g c = rw c.in-Differs.is c.write_whole.ensures
