-- Freshness: each element keeps the value of a round until every load of it was made, and is
-- loaded after that round was stored. An access of element y in reaction j is one of round j
-- times its period plus the access's number; its place is the round modulo the places of y.
use Rattle.std.specs.Prelude.{◌≡◌, ℕ, ◌+◌, ◌*◌, ◌%◌, ◌<◌, Some, slice_get}
use Rattle.interleavings.specs.Sites.{number_of}
use Rattle.interleavings.specs.System.{System, load, store}

module _ {P : Type 0} (w : System P) (c : ℕ → ℕ) where
  -- place l of the turn of s was made in reaction j
  abbrev pub WasMade : ℕ → ℕ → ℕ → Type 0
  WasMade s l j = number_of (w.codes s) j l < c s

  -- the store of round t of element y was made
  pub record IsStored (y t : ℕ) : Type 0 where
    pub sequence : ℕ
    pub place : ℕ
    pub access : ℕ
    pub reaction : ℕ
    pub stands : slice_get (w.codes sequence).turn place ≡ Some (store y access)
    pub round : reaction * w.period y + access ≡ t
    pub made : WasMade sequence place reaction

  -- The counts c are fresh if no value was overwritten before its last load, and no
  -- load was made before the store of its own round.
  pub record IsFresh : Type 0 where
    -- where the store of round t was made, every load of a round below t in that place was made
    pub kept : (y t s l i j : ℕ) → IsStored y t → slice_get (w.codes s).turn l ≡ Some (load y i) →
        j * w.period y + i < t → (j * w.period y + i) % w.depth y ≡ t % w.depth y → WasMade s l j
    -- where a load of round t was made, its store of round t was made
    pub stored : (y s l i j : ℕ) → slice_get (w.codes s).turn l ≡ Some (load y i) → WasMade s l j →
        IsStored y (j * w.period y + i)
