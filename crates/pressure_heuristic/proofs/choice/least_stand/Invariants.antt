use Rattle.std.proofs.Common.{◌≤◌, ◌-◌, length}
use Rattle.std.specs.List.{filter, range_with_len}
use Rattle.schedule.specs.Acts.{acts_of}
use Rattle.comm_routing.specs.Draft.{task_of}
use Rattle.comm_routing.specs.Placing.{may_stand}
use Rattle.pressure_heuristic.specs.Choosing.{IsLeastStand}
use Rattle.pressure_heuristic.proofs.choice.least_stand.Given as goal

-- the choice among the operators from this one on
abbrev pub invariant-loop-operator : goal.invariant-loop-operator
invariant-loop-operator l = record {
  best : IsLeastStand (task_of l.draft) (acts_of l.draft.decisions) l.op
      (filter (may_stand (task_of l.draft) (acts_of l.draft.decisions) l.op) (range_with_len l.operator (length l.draft.archi.operators - l.operator))) l.best;
  within : l.operator ≤ length l.draft.archi.operators;
}

abbrev pub decreases-loop-operator : goal.decreases-loop-operator
decreases-loop-operator l = l.operator
