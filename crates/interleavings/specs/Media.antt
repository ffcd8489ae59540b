-- Media: the halves of a reaction's transfers follow each other by the medium's turn. The precedence of a system.
use Rattle.std.specs.Prelude.{
  ◌≡◌,
  ℕ,
  zero,
  suc,
  ◌+◌,
  ◌<◌,
  ◌≤◌,
  Bool,
  true,
  false,
  Option,
  Some,
  None,
  slice_get,
  nat_eq,
  ◌&&◌,
}
use Rattle.interleavings.specs.Precedence.{Precedence, Event}
use Rattle.interleavings.specs.Sites.{step_at, passes}
use Rattle.interleavings.specs.System.{
  System,
  Micro,
  take,
  see,
  sub,
  signal,
  await,
  advance,
  load,
  store,
  is_take,
  advances,
  stores,
  half_number,
  full,
}
use Rattle.interleavings.specs.Owners.{Owner, nth_of, nth_in, IsFamily}

-- Half i of a reaction's transfers on a medium: its sequence, and the places of its
-- wait and of its advance. The send of transfer t is half 2t, its receive 2t + 1.
pub record Half : Type 0 where
  pub sequence : ℕ
  pub waits : ℕ
  pub advances : ℕ

-- The owner of a half's advance is the sequence of the half, at the place of the
-- advance in its turn; it makes none in its prologue.
abbrev pub owner_of : Half → Owner
owner_of h = record { sequence = h.sequence; site = record { first = 0; early = 0; place = h.advances } }

-- A micro-step advances half i of medium m if it is an advance of m with the number i
-- in the reaction.
abbrev pub advances_half : ℕ → ℕ → Micro → Bool
advances_half m i (advance n j) = nat_eq n m && nat_eq j i
advances_half m i _ = false

module _ {P : Type 0} (w : System P) (signaller : ℕ → Owner) (half : ℕ → ℕ → Half) where
  -- a wait for turn 0 needs nothing, and a wait for turn a + 1 needs advance a
  abbrev pub needed_turn : ℕ → ℕ → Option Event
  needed_turn m zero = None
  needed_turn m (suc a) = Some (nth_in w (w.halves m) (λ i. owner_of (half m i)) a)

  abbrev pub needed : Event → Option Micro → Option Event
  needed e (Some (take x)) = Some (nth_of w (signaller x) (passes (is_take x) (w.codes e.sequence) e.number))
  needed e (Some (see x)) = Some (nth_of w (signaller x) (passes (is_take x) (w.codes e.sequence) e.number))
  needed e (Some (await m i b)) = needed_turn m (half_number w e.sequence e.number m i)
  needed e (Some (sub x)) = None
  needed e (Some (signal x)) = None
  needed e (Some (advance m i)) = None
  needed e (Some (load y i)) = None
  needed e (Some (store y i)) = None
  needed e None = None

  abbrev pub precedence : (Event → ℕ) → Precedence
  precedence rank = record {
    sequences = w.sequences;
    full = full w;
    needs = λ e. needed e (step_at (w.codes e.sequence) e.number);
    rank = rank;
  }

  -- Medium m works by turns if it has at least one half in a reaction and each half is advanced at
  -- one place only, in the turn of the half's sequence, after the wait there for exactly this half.
  pub record IsMedium (m : ℕ) : Type 0 where
    pub family : IsFamily w (w.halves m) (advances m) (advances_half m) (λ i. owner_of (half m i))
    pub before : (i : ℕ) → i < w.halves m → (half m i).waits < (half m i).advances
    pub waiting : (i : ℕ) → i < w.halves m →
        slice_get (w.codes (half m i).sequence).turn (half m i).waits ≡ Some (await m i true)

  -- a wait for exactly its own turn stands in its own half, before the advance
  pub record IsOwnWait (s l m i : ℕ) : Type 0 where
    pub within : i < w.halves m
    pub same : s ≡ (half m i).sequence
    pub early : l < (half m i).advances

-- A micro-step makes store i of element y if it is a store of y with the number i in the reaction.
abbrev pub stores_access : ℕ → ℕ → Micro → Bool
stores_access y i (store z j) = nat_eq z y && nat_eq j i
stores_access y i _ = false

module _ {P : Type 0} (w : System P) (half : ℕ → ℕ → Half) where
  -- The owner of store i of an element of the wire of medium m is the sequence of half
  -- `half_of i`, at place `place_of i` of its turn.
  abbrev pub writer_of : ℕ → (ℕ → ℕ) → (ℕ → ℕ) → ℕ → Owner
  writer_of m half_of place_of i =
      record { sequence = (half m (half_of i)).sequence; site = record { first = 0; early = 0; place = place_of i } }

  -- Element y of the wire of medium m: access i of a reaction is stored in half `half_of i`,
  -- at place `place_of i` of its sequence, and loaded in the half after it.
  pub record IsWire (y m : ℕ) (half_of place_of : ℕ → ℕ) : Type 0 where
    pub family : IsFamily w (w.period y) (stores y) (stores_access y) (writer_of m half_of place_of)
    pub single : w.depth y ≡ 1
    pub apart : (i : ℕ) → i + 1 < w.period y → half_of i + 2 ≤ half_of (i + 1)
    pub within : (i : ℕ) → i < w.period y → half_of i + 2 ≤ w.halves m
    pub after_wait : (i : ℕ) → i < w.period y → (half m (half_of i)).waits < place_of i
    pub before_advance : (i : ℕ) → i < w.period y → place_of i < (half m (half_of i)).advances

  -- it is loaded at place l of s
  pub record IsWireLoad (m : ℕ) (half_of : ℕ → ℕ) (s l i : ℕ) : Type 0 where
    pub same : s ≡ (half m (half_of i + 1)).sequence
    pub after_wait : (half m (half_of i + 1)).waits < l
    pub before_advance : l < (half m (half_of i + 1)).advances
