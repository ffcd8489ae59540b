use Rattle.std.proofs.Common.{◌≡◌, ◌++◌, drop, map}
use Rattle.algo_resolve.specs.Plans.{plan_of, plan_view}
use Rattle.algo_resolve.proofs.plan.plans.Given as goal

abbrev pub invariant-loop-place : goal.invariant-loop-place
invariant-loop-place l = map plan_view l.plans.items ++ map (plan_of l.checked.defs.now) (drop l.place l.checked.defs.now) ≡ map (plan_of l.checked.defs.now) l.checked.defs.now
