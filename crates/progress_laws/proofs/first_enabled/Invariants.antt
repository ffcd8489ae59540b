-- No sequence before this one is enabled.
use Rattle.std.proofs.Common.{◌≡◌, ℕ, ◌<◌, false}
use Rattle.phase_laws.specs.Core.{is_enabled}
use Rattle.progress_laws.proofs.first_enabled.Given as goal

abbrev pub invariant-loop-seq : goal.invariant-loop-seq
invariant-loop-seq l = (t : ℕ) → t < l.seq → is_enabled l.job l.state.core t ≡ false
