use Rattle.std.proofs.Common.{◌≡◌, ℕ, ◌<◌, true}
use Rattle.sequence_build_laws.specs.MicroSteps.{transfers}
use Rattle.program_walks.specs.Walks.{all_below}
use Rattle.check_laws.specs.Tests.{is_moved}
use Rattle.macro_check.proofs.moving.are_moved.Given as goal

abbrev pub invariant-loop-medium : goal.invariant-loop-medium
invariant-loop-medium l = (m : ℕ) → m < l.medium → all_below (λ t. is_moved l.program m t) (transfers l.program m) ≡ true
