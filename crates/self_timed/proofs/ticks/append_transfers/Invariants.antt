use Rattle.std.proofs.Common.{◌≡◌, ◌++◌, drop}
use Rattle.self_timed.specs.Stated.{carried_ticks}
use Rattle.self_timed.proofs.ticks.append_transfers.Given as goal

-- the ticks so far, followed by those of what is left, are all
abbrev pub invariant-loop-decision : goal.invariant-loop-decision
invariant-loop-decision l = l.ticks.items ++ carried_ticks (drop l.decision-index l.decisions) ≡ l.fn.ticks.items ++ carried_ticks l.decisions
