use Rattle.std.proofs.Common.{drop}
use Rattle.actual_durations.proofs.Filled.{IsFilled}
use Rattle.actual_durations.proofs.operators.operators_of.Given as goal

-- the decisions that are left complete the table
abbrev pub invariant-loop-decision : goal.invariant-loop-decision
invariant-loop-decision l = IsFilled l.operations l.operators.items (drop l.decision-index l.decisions) l.decisions
