use Rattle.std.proofs.Common.{ℕ, ◌<◌, ◌≤◌}
use Rattle.schedule_search.specs.Alone.{IsLowOn}
use Rattle.schedule_search.specs.Drafts.{IsMeasured, site_task}
use Rattle.schedule_search.proofs.alone.best_alone.Given as goal

abbrev pub invariant-loop-operator : goal.invariant-loop-operator
invariant-loop-operator l = record {
  measured : IsMeasured l.site l.goal l.best;
  first : l.best.measure ≤ l.fn.first.measure;
  alone : (p : ℕ) → p < l.operator → IsLowOn (site_task l.site) l.goal p l.best.measure;
}
