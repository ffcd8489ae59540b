use Rattle.std.proofs.Common.{◌≡◌, ℕ, ◌<◌, true}
use Rattle.check_laws.specs.Tests.{is_moved}
use Rattle.macro_check.proofs.moving.are_moved_on.Given as goal

abbrev pub invariant-loop-number : goal.invariant-loop-number
invariant-loop-number l = (t : ℕ) → t < l.number → is_moved l.program l.medium t ≡ true
