use Rattle.std.proofs.Common.{◌≡◌, ◌+ℤ◌, length}
use Rattle.syn_base.specs.Arithmetic.{wrapped}
use Rattle.word_rule.specs.Driven.{Driven, driven_by}
use Rattle.top_plans.specs.Stage.{after_jobs, RunsSome}
use Rattle.syndex_program.specs.Left.{jobs_left}
use Rattle.syndex_program.specs.Sums.{total_left}
use Rattle.syndex_program.proofs.commands.load.sum_of.Given as goal

-- what follows from here is what follows from the start
abbrev pub invariant-windows : goal.invariant-windows
invariant-windows g l = (l.windows.job ≡ l.fn.windows.job)
    × (wrapped (l.sum +ℤ total_left l.windows) ≡ wrapped (total_left l.fn.windows))
    × (after_jobs driven_by (jobs_left l.windows) l.driven ≡ after_jobs driven_by (jobs_left l.fn.windows) l.fn.driven)
    × ((d' : Driven) → RunsSome driven_by (jobs_left l.windows) l.driven d' → RunsSome driven_by (jobs_left l.fn.windows) l.fn.driven d')

abbrev pub decreases-windows : goal.decreases-windows
decreases-windows g l = length (jobs_left l.windows)
