-- How many steps a list may have in which each named sequence is enabled.
use Rattle.std.specs.Prelude.{◌≡◌, ℕ, ◌≤◌, true, List, [], ◌∷◌, length}
use Rattle.phase_laws.specs.Job.{JobData}
use Rattle.phase_laws.specs.Core.{Core, opening, is_enabled, step, run, IsDone}

module _ (j : JobData) where
  -- From state z on each listed sequence is enabled when its entry comes, after the
  -- steps of those before it.
  abbrev pub AllEnabledFrom : Core → List ℕ → Type 0
  AllEnabledFrom z [] = Unit {0}
  AllEnabledFrom z (s ∷ ss) = (is_enabled j z s ≡ true) × AllEnabledFrom (step j z s) ss

  -- from the opening state on each named sequence is enabled when its entry comes
  abbrev pub AllEnabled : List ℕ → Type 0
  AllEnabled list = AllEnabledFrom (opening j) list

  -- no such list has more entries, and one of this many ends where all is done
  pub record IsBound (total : ℕ) : Type 0 where
    pub most : (list : List ℕ) → AllEnabled list → length list ≤ total
    pub ends : (list : List ℕ) → AllEnabled list → length list ≡ total → IsDone j (run j list)
