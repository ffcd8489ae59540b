use Rattle.std.proofs.Common.{◌≡◌, drop, max}
use Rattle.schedule.specs.Acts.{acts_of, latest}
use Rattle.schedule.proofs.decision.latest_end.Given as goal

-- the latest end so far, with that of the decisions that are left, is that of all
abbrev pub invariant-loop-decision : goal.invariant-loop-decision
invariant-loop-decision l = max l.latest (latest (acts_of (drop l.decision-index l.decisions))) ≡ latest (acts_of l.decisions)
