use Rattle.std.proofs.Common.{◌≡◌, ◌+◌, drop, length}
use Rattle.lower_bound.proofs.transfers.count_all.Given as goal
use Rattle.self_timed.specs.Acts.{transfers_of}

-- the transfers so far, with those of the decisions that are left, are all
abbrev pub invariant-loop-decision : goal.invariant-loop-decision
invariant-loop-decision l = l.count + length (transfers_of (drop l.decision-index l.decisions)) ≡ length (transfers_of l.decisions)
