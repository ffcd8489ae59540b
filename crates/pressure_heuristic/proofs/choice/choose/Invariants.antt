use Rattle.std.proofs.Common.{◌≡◌, drop}
use Rattle.schedule.specs.Acts.{acts_of}
use Rattle.comm_routing.specs.Draft.{task_of}
use Rattle.pressure_heuristic.specs.Choice.{first_greatest}
use Rattle.pressure_heuristic.specs.Pressure.{urgency}
use Rattle.pressure_heuristic.specs.Choosing.{IsBest, with_best}
use Rattle.pressure_heuristic.proofs.choice.choose.Given as goal

-- the best choice so far, with the candidates that are left, leads as all candidates do
abbrev pub invariant-loop-op : goal.invariant-loop-op
invariant-loop-op l = record {
  best : IsBest (task_of l.draft) (acts_of l.draft.decisions) l.best;
  leads : first_greatest (urgency (task_of l.draft) (acts_of l.draft.decisions)) (with_best l.best (drop l.op-index l.ready))
      ≡ first_greatest (urgency (task_of l.draft) (acts_of l.draft.decisions)) l.ready;
}
