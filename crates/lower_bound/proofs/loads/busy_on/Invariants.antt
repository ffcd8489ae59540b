use Rattle.std.proofs.Common.{◌≡◌, ◌+◌, drop}
use Rattle.self_timed.specs.Acts.{acts_of, is_on}
use Rattle.lower_bound.specs.Numbers.{busy}
use Rattle.lower_bound.proofs.loads.busy_on.Given as goal

-- the time so far, with that of the decisions that are left, is the whole
abbrev pub invariant-loop-decision : goal.invariant-loop-decision
invariant-loop-decision l = l.busy + busy (is_on l.operator) (acts_of (drop l.decision-index l.decisions)) ≡ busy (is_on l.operator) (acts_of l.decisions)
