-- A precedence of events (Lamport): sequences, the order within each, and for
-- each event the one event of another sequence that must happen before it.
use Rattle.std.specs.Prelude.{◌≡◌, ℕ, ◌+◌, ◌<◌, ◌≤◌, Option, Some, cond, eqb}

-- an event is the number of its sequence and the number of events of that sequence before it
pub record Event : Type 0 where
  pub sequence : ℕ
  pub number : ℕ

-- A precedence has this many sequences, of which sequence s makes `full s` events one after
-- the other. An event needs at most one event, which has to be made before it.
pub record Precedence : Type 0 where
  pub sequences : ℕ
  pub full : ℕ → ℕ
  pub needs : Event → Option Event
  -- the place of an event in the one serial order
  pub rank : Event → ℕ

-- event n of sequence s
abbrev pub event : ℕ → ℕ → Event
event s n = record { sequence = s; number = n }

-- where each sequence s made c s events
abbrev pub IsMade : (ℕ → ℕ) → Event → Type 0
IsMade c e = e.number < c e.sequence

-- An event is one of the precedence if its sequence is and its number is below the
-- number of events that the sequence makes in all.
abbrev pub IsEvent : Precedence → Event → Type 0
IsEvent p e = (e.sequence < p.sequences) × (e.number < p.full e.sequence)

-- the serial order keeps each sequence's order, and each event stands after the one that it needs
pub record IsSerial (p : Precedence) : Type 0 where
  pub rises : (s n m : ℕ) → n < m → m < p.full s → p.rank (event s n) < p.rank (event s m)
  pub needs_here : (e f : Event) → IsEvent p e → p.needs e ≡ Some f → IsEvent p f
  pub needs_below : (e f : Event) → IsEvent p e → p.needs e ≡ Some f → p.rank f < p.rank e

-- Counts of made events are a consistent cut (Mattern): no event is made
-- before the one that it needs. This alone is the invariant on counts.
pub record IsConsistent (p : Precedence) (c : ℕ → ℕ) : Type 0 where
  pub within : (s : ℕ) → c s ≤ p.full s
  pub made : (e f : Event) → IsMade c e → p.needs e ≡ Some f → IsMade c f

-- there is a next event of s, and the one that it needs was made
pub record IsReady (p : Precedence) (c : ℕ → ℕ) (s : ℕ) : Type 0 where
  pub pending : c s < p.full s
  pub met : (f : Event) → p.needs (event s (c s)) ≡ Some f → IsMade c f

-- one more event of sequence s
abbrev pub one_more : (ℕ → ℕ) → ℕ → ℕ → ℕ
one_more c s t = cond (eqb t s) (c t + 1) (c t)
