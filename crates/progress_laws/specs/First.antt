-- The least sequence that is enabled.
use Rattle.std.specs.Prelude.{◌≡◌, ℕ, ◌<◌, true, false, length}
use Rattle.phase_laws.specs.Job.{JobData}
use Rattle.phase_laws.specs.Core.{Core, is_enabled}

-- Sequence s is enabled in state z, and none with a lower number is.
pub record IsFirstEnabled (j : JobData) (z : Core) (s : ℕ) : Type 0 where
  pub there : s < length j.program.seqs
  pub enabled : is_enabled j z s ≡ true
  pub least : (t : ℕ) → t < s → is_enabled j z t ≡ false
