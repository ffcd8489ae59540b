use Rattle.std.proofs.Common.{◌≡◌, ◌+◌, ◌≤◌}
use Rattle.comm_routing.specs.Draft.{task_of}
use Rattle.schedule_search.specs.Alone.{MayAllStandOn, SoFar}
use Rattle.schedule_search.specs.Drafts.{IsUnderWay}
use Rattle.schedule_search.proofs.Lone.{count_left}
use Rattle.schedule_search.proofs.alone.place_on.Given as goal

abbrev pub invariant-loop-decision : goal.invariant-loop-decision
invariant-loop-decision l = record {
  under : IsUnderWay l.draft;
  same : task_of l.draft ≡ task_of l.fn.draft;
  count : count_left (task_of l.draft) l.draft.decisions + l._decision ≤ l.operations;
  so : MayAllStandOn (task_of l.draft) l.operator → SoFar (task_of l.draft) l.operator l.draft.decisions;
}
