use Rattle.std.proofs.Common.{◌≡◌, ◌-◌, []}
use Rattle.comm_routing.specs.Draft.{task_of}
use Rattle.pressure_heuristic.specs.Choosing.{IsGuide}
use Rattle.pressure_heuristic.specs.Pressure.{run_after}
use Rattle.pressure_heuristic.proofs.steps.run.Given as goal

-- what is left of the run completes it
abbrev pub invariant-loop-decision : goal.invariant-loop-decision
invariant-loop-decision l = record {
  guide : IsGuide l.draft l.durations l.tails;
  same : task_of l.draft ≡ task_of l.fn.draft;
  left : run_after (task_of l.draft) (l.operations - l._decision) l.draft.decisions ≡ run_after (task_of l.draft) l.operations [];
}
