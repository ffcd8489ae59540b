-- The bound is the number of micro-steps in all.
use Rattle.std.proofs.Common.{ℕ, sym, subst}
use Rattle.progress_laws.specs.Bound.{IsBound}
use Rattle.progress_laws.proofs.Counted.{is_bound}
use Rattle.progress_laws.proofs.steps_in_all.Goals as goal

pub returns-clause-bound : goal.returns-clause-bound
returns-clause-bound c = subst (λ (n : ℕ). IsBound c.args.job.now n) (sym c.total_steps.ensures) (is_bound c.args.job.now)
