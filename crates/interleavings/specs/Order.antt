-- One serial order of all micro-steps of a reaction, in which each need stands earlier.
use Rattle.std.specs.Prelude.{◌≡◌, ℕ, ◌+◌, ◌<◌, ◌≤◌, ◌⊎◌, Bool, true, false, Some, slice_get, length}
use Rattle.interleavings.specs.System.{System, Micro, take, see, sub, signal, await}
use Rattle.interleavings.specs.Owners.{Owner}
use Rattle.interleavings.specs.Media.{Half, IsMedium, IsOwnWait}
use Rattle.interleavings.specs.Pairs.{IsSemaphore}

module _ {P : Type 0} (w : System P) (signaller : ℕ → Owner) (half : ℕ → ℕ → Half) where
  -- What each place of a turn is part of. Prologues only signal.
  pub record IsJoined : Type 0 where
    pub prologue : (s i : ℕ) (m : Micro) → slice_get (w.codes s).prologue i ≡ Some m → (x : ℕ) × (m ≡ signal x)
    pub takes : (s l x : ℕ) → (slice_get (w.codes s).turn l ≡ Some (take x)) ⊎
        (slice_get (w.codes s).turn l ≡ Some (see x)) → (t : ℕ) × IsSemaphore w signaller x s l t
    -- a lower stands after the see that asked for it
    pub lowers : (s l x : ℕ) → slice_get (w.codes s).turn l ≡ Some (sub x) → (a : ℕ) × IsSemaphore w signaller x s a l
    pub waits : (s l m i : ℕ) → slice_get (w.codes s).turn l ≡ Some (await m i true) →
        IsMedium w signaller half m × IsOwnWait w signaller half s l m i
    pub syncs : (s l m i : ℕ) → slice_get (w.codes s).turn l ≡ Some (await m i false) →
        IsMedium w signaller half m × (0 < i) × (i ≤ w.halves m)

  -- `spot s l` is the place in the serial order of place l in the turn of s
  pub record IsOrdered (spot : ℕ → ℕ → ℕ) (steps front : ℕ) : Type 0 where
    pub below : (s l : ℕ) → l < length (w.codes s).turn → spot s l < steps
    pub rises : (s l m : ℕ) → l < m → m < length (w.codes s).turn → spot s l < spot s m
    pub fronts : (s : ℕ) → length (w.codes s).prologue ≤ front
    -- what is not signalled before the loop is signalled before it is asked for
    pub signal_first : (x s l t : ℕ) → IsSemaphore w signaller x s l t → (signaller x).site.early ≡ 0 →
        spot (signaller x).sequence (signaller x).site.place < spot s l
    -- the half before advances first
    pub half_first : (s l m i : ℕ) (e : Bool) → slice_get (w.codes s).turn l ≡ Some (await m (i + 1) e) →
        IsMedium w signaller half m → spot (half m i).sequence (half m i).advances < spot s l
