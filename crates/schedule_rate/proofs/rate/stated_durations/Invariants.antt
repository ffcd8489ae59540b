use Rattle.std.proofs.Common.{◌≡◌, ◌++◌, drop, map}
use Rattle.self_timed.specs.Acts.{acts_of}
use Rattle.self_timed.specs.Entries.{stated}
use Rattle.schedule_rate.proofs.rate.stated_durations.Given as goal

abbrev pub invariant-loop-decision : goal.invariant-loop-decision
invariant-loop-decision l = l.long.items ++ map stated (acts_of (drop l.decision-index l.decisions)) ≡ map stated (acts_of l.decisions)
