-- What each next step has to find in consistent counts, so that every run is what its counts tell.
use Rattle.std.specs.Prelude.{◌≡◌, ℕ, ◌+◌, ◌<◌, Some, ℤ}
use Rattle.interleavings.specs.Sites.{step_at}
use Rattle.interleavings.specs.System.{System, Micro, load, store, round_number, full}

module _ {P : Type 0} (w : System P) where
  -- Each sequence by itself computes the stored values, if each of its loads finds the value of its own round.
  abbrev pub IsRightAt : (ℕ → ℕ → ℤ) → (ℕ → ℕ → P) → ℕ → ℕ → Micro → Type 0
  IsRightAt stored owned s n (load y i) = owned s (n + 1) ≡ w.absorb s n (owned s n) (stored y (round_number w s n y i))
  IsRightAt stored owned s n (store y i) = (w.emit s n (owned s n) ≡ stored y (round_number w s n y i)) ×
      (owned s (n + 1) ≡ w.after s n (owned s n))
  IsRightAt stored owned s n _ = owned s (n + 1) ≡ owned s n

  -- These are the values of elements, by round, and the private states, by count, if each sequence
  -- begins with its start and goes on as its micro-steps say when loads find their own rounds.
  pub record AreValues (stored : ℕ → ℕ → ℤ) (owned : ℕ → ℕ → P) : Type 0 where
    pub first : (s : ℕ) → owned s 0 ≡ w.start s
    pub right : (s n : ℕ) (m : Micro) → n < full w s → step_at (w.codes s) n ≡ Some m → IsRightAt stored owned s n m
