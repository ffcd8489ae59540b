-- A synchronized system: what each step of its sequences is part of.
use Rattle.std.specs.Prelude.{◌≡◌, ℕ, ◌<◌, ◌⊎◌, Some, slice_get}
use Rattle.interleavings.specs.Sites.{step_at}
use Rattle.interleavings.specs.System.{System, take, signal, load, store, stores}
use Rattle.interleavings.specs.Owners.{Owner, IsOwned}
use Rattle.interleavings.specs.Media.{Half, IsMedium, IsWire, IsWireLoad}
use Rattle.interleavings.specs.Pairs.{Pair, IsSemaphore, IsPair, late}
use Rattle.interleavings.specs.Order.{IsJoined}

module _ {P : Type 0} (w : System P) (signaller : ℕ → Owner) (half : ℕ → ℕ → Half) where
  -- x is a semaphore of a pair whose buffer has one place
  pub record IsBinary (x : ℕ) : Type 0 where
    pub pair : Pair
    pub is_pair : IsPair w signaller pair
    pub one_place : pair.depth ≡ 1
    pub is_one : (x ≡ pair.empty) ⊎ (x ≡ pair.full)

  -- Element y of a buffer is stored at place st of the writer's turn.
  pub record IsBuffer (y writer st : ℕ) : Type 0 where
    pub written : IsOwned w (stores y) (late writer st)
    pub once : w.period y ≡ 1
    pub some : 0 < w.depth y

  -- the writing sequence itself loads y, after its store
  pub record IsOwnLoad (s l y i : ℕ) : Type 0 where
    pub st : ℕ
    pub buffer : IsBuffer y s st
    pub first : i ≡ 0
    pub after : st < l

  -- a reader loads y between its take of the full and its signal of the
  -- empty semaphore; the store stands between the others of the pair
  pub record IsPairLoad (s l y i : ℕ) : Type 0 where
    pub pair : Pair
    pub is_pair : IsPair w signaller pair
    pub same : s ≡ pair.reader
    pub depth : w.depth y ≡ pair.depth
    pub st : ℕ
    pub buffer : IsBuffer y pair.writer st
    pub first : i ≡ 0
    pub store_after : pair.take_empty < st
    pub store_before : st < pair.signal_full
    pub load_after : pair.take_full < l
    pub load_before : l < pair.signal_empty

  -- a receiving half loads the access i of the wire
  pub record IsFromWire (s l y i : ℕ) : Type 0 where
    pub medium : ℕ
    pub half_of : ℕ → ℕ
    pub place_of : ℕ → ℕ
    pub medium_is : IsMedium w signaller half medium
    pub wire : IsWire w half y medium half_of place_of
    pub within : i < w.period y
    pub load_is : IsWireLoad w half medium half_of s l i

  -- the one store of an element of a buffer
  pub record IsBufferStore (s l y i : ℕ) : Type 0 where
    pub buffer : IsBuffer y s l
    pub first : i ≡ 0

  -- a sending half stores the access i of the wire
  pub record IsToWire (s l y i : ℕ) : Type 0 where
    pub medium : ℕ
    pub half_of : ℕ → ℕ
    pub place_of : ℕ → ℕ
    pub medium_is : IsMedium w signaller half medium
    pub wire : IsWire w half y medium half_of place_of
    pub within : i < w.period y
    pub same : s ≡ (half medium (half_of i)).sequence
    pub place : l ≡ place_of i

  -- each take, signal, wait, load and store is part of a pair, a medium, a buffer or a wire
  pub record IsSynchronized : Type 0 where
    pub joined : IsJoined w signaller half
    pub binary : (s l x : ℕ) → slice_get (w.codes s).turn l ≡ Some (take x) → IsBinary x
    pub signalled : (s n x : ℕ) → step_at (w.codes s) n ≡ Some (signal x) →
        (t : ℕ) × (a : ℕ) × (b : ℕ) × IsSemaphore w signaller x t a b
    pub loads : (s l y i : ℕ) → slice_get (w.codes s).turn l ≡ Some (load y i) →
        IsOwnLoad s l y i ⊎ (IsPairLoad s l y i ⊎ IsFromWire s l y i)
    pub stores : (s l y i : ℕ) → slice_get (w.codes s).turn l ≡ Some (store y i) →
        IsBufferStore s l y i ⊎ IsToWire s l y i
