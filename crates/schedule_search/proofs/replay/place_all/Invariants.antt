use Rattle.std.proofs.Common.{◌≡◌}
use Rattle.comm_routing.specs.Draft.{task_of}
use Rattle.schedule_search.specs.Drafts.{IsUnderWay}
use Rattle.schedule_search.proofs.replay.place_all.Given as goal

abbrev pub invariant-loop-stand : goal.invariant-loop-stand
invariant-loop-stand l = record { under : IsUnderWay l.draft; same : task_of l.draft ≡ task_of l.fn.draft }
