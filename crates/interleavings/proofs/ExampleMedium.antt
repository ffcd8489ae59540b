-- A sender and a receiver of one element over a medium meet the hypotheses on media and wires.
use Rattle.std.proofs.Common.{◌≡◌, ℕ, zero, suc, ◌<◌, Bool, true, false, cond, ltb, List, [], ◌∷◌, Option, Some, refl, arith, ℤ, pos}
use Rattle.std.specs.Prelude.{slice_get}
use Rattle.interleavings.specs.Sites.{Code, step_at, place_at, hit}
use Rattle.interleavings.specs.System.{System, Micro, await, advance, load, store, stores, advances}
use Rattle.interleavings.specs.Owners.{Owner, IsOwned, sum_below}
use Rattle.interleavings.specs.Media.{Half, owner_of, advances_half, stores_access, writer_of, IsMedium, IsOwnWait, IsWire, IsWireLoad}
use Rattle.interleavings.specs.Pairs.{late}

abbrev codes : ℕ → Code Micro
codes zero = record { prologue = []; turn = await 0 0 true ∷ store 0 0 ∷ advance 0 0 ∷ [] }
codes (suc zero) = record { prologue = []; turn = await 0 1 true ∷ load 0 0 ∷ advance 0 1 ∷ [] }
codes (suc (suc s)) = record { prologue = []; turn = [] }

abbrev example : System (List ℤ)
example = record {
  sequences = 2;
  reactions = 5;
  codes = codes;
  halves = λ _. 2;
  period = λ _. 1;
  depth = λ _. 1;
  start = λ _. [];
  absorb = λ _ _ xs v. v ∷ [];
  emit = λ _ _ _. pos 7;
  after = λ _ _ xs. xs;
}

abbrev signaller : ℕ → Owner
signaller _ = late 0 0

abbrev half : ℕ → ℕ → Half
half m i = record { sequence = i; waits = 0; advances = 2 }

-- what holds of each element of a turn with no prologue holds of each step
each : (Q : Option Micro → Type 0) (s : ℕ) → ((i : ℕ) → Q (slice_get (codes s).prologue i)) → ((i : ℕ) → Q (slice_get (codes s).turn i)) → (n : ℕ) → Q (step_at (codes s) n)
each Q s f t n = by (ltb n _)
  where
    by : (b : Bool) → Q (cond b (slice_get (codes s).prologue n) (slice_get (codes s).turn (place_at (codes s) n)))
    by true = f n
    by false = t (place_at (codes s) n)

three : (Q : Option Micro → Type 0) (a b c : Micro) → Q (Some a) → Q (Some b) → Q (Some c) → ((i : ℕ) → Q (slice_get [] i)) → (i : ℕ) → Q (slice_get (a ∷ b ∷ c ∷ []) i)
three Q a b c ha hb hc n zero = ha
three Q a b c ha hb hc n (suc zero) = hb
three Q a b c ha hb hc n (suc (suc zero)) = hc
three Q a b c ha hb hc n (suc (suc (suc i))) = n i

abbrev Covers : Option Micro → Type 0
Covers m = hit (advances 0) m ≡ sum_below (λ i. hit (advances_half 0 i) m) 2

covers : (s n : ℕ) → Covers (step_at (codes s) n)
covers zero n = each Covers 0 (λ i. refl) (three Covers _ _ _ refl refl refl (λ i. refl)) n
covers (suc zero) n = each Covers 1 (λ i. refl) (three Covers _ _ _ refl refl refl (λ i. refl)) n
covers (suc (suc s)) n = each Covers (suc (suc s)) (λ i. refl) (λ i. refl) n

abbrev NotHit : (Micro → Bool) → Option Micro → Type 0
NotHit p m = hit p m ≡ 0

send_owned : IsOwned example (advances_half 0 0) (owner_of (half 0 0))
send_owned = record {
  here = omega arith;
  site =
      record {
        within = omega arith;
        here = refl;
        only = only;
        within_early = omega arith;
        here_early =
            λ i a b. absurd (omega arith);
        before_early = λ i a. refl;
        after_early = λ i a. refl;
      };
  alone = alone;
}
  where
    only : (i : ℕ) → (i ≡ 2 → ⊥) → hit (advances_half 0 0) (slice_get (codes 0).turn i) ≡ 0
    only zero h = refl
    only (suc zero) h = refl
    only (suc (suc zero)) h = absurd (h refl)
    only (suc (suc (suc i))) h = refl

    alone : (s n : ℕ) → (s ≡ 0 → ⊥) → hit (advances_half 0 0) (step_at (codes s) n) ≡ 0
    alone zero n h = absurd (h refl)
    alone (suc zero) n h = each (NotHit (advances_half 0 0)) 1 (λ i. refl) (three (NotHit (advances_half 0 0)) _ _ _ refl refl refl (λ i. refl)) n
    alone (suc (suc s)) n h = each (NotHit (advances_half 0 0)) (suc (suc s)) (λ i. refl) (λ i. refl) n

receive_owned : IsOwned example (advances_half 0 1) (owner_of (half 0 1))
receive_owned = record {
  here = omega arith;
  site =
      record {
        within = omega arith;
        here = refl;
        only = only;
        within_early = omega arith;
        here_early =
            λ i a b. absurd (omega arith);
        before_early = λ i a. refl;
        after_early = λ i a. refl;
      };
  alone = alone;
}
  where
    only : (i : ℕ) → (i ≡ 2 → ⊥) → hit (advances_half 0 1) (slice_get (codes 1).turn i) ≡ 0
    only zero h = refl
    only (suc zero) h = refl
    only (suc (suc zero)) h = absurd (h refl)
    only (suc (suc (suc i))) h = refl

    alone : (s n : ℕ) → (s ≡ 1 → ⊥) → hit (advances_half 0 1) (step_at (codes s) n) ≡ 0
    alone zero n h = each (NotHit (advances_half 0 1)) 0 (λ i. refl) (three (NotHit (advances_half 0 1)) _ _ _ refl refl refl (λ i. refl)) n
    alone (suc zero) n h = absurd (h refl)
    alone (suc (suc s)) n h = each (NotHit (advances_half 0 1)) (suc (suc s)) (λ i. refl) (λ i. refl) n

medium : IsMedium example signaller half 0
medium = record {
  family = record { some = omega arith; owned = owned; late = λ i h. refl; covers = covers };
  before = λ i h. omega arith;
  waiting = waiting;
}
  where
    owned : (i : ℕ) → i < 2 → IsOwned example (advances_half 0 i) (owner_of (half 0 i))
    owned zero h = send_owned
    owned (suc zero) h = receive_owned
    owned (suc (suc i)) h = absurd (omega arith)

    waiting : (i : ℕ) → i < 2 → slice_get (codes i).turn 0 ≡ Some (await 0 i true)
    waiting zero h = refl
    waiting (suc zero) h = refl
    waiting (suc (suc i)) h = absurd (omega arith)

abbrev Stored : Option Micro → Type 0
Stored m = hit (stores 0) m ≡ sum_below (λ i. hit (stores_access 0 i) m) 1

store_owned : IsOwned example (stores_access 0 0) (writer_of example half 0 (λ _. 0) (λ _. 1) 0)
store_owned = record {
  here = omega arith;
  site =
      record {
        within = omega arith;
        here = refl;
        only = only;
        within_early = omega arith;
        here_early =
            λ i a b. absurd (omega arith);
        before_early = λ i a. refl;
        after_early = λ i a. refl;
      };
  alone = alone;
}
  where
    only : (i : ℕ) → (i ≡ 1 → ⊥) → hit (stores_access 0 0) (slice_get (codes 0).turn i) ≡ 0
    only zero h = refl
    only (suc zero) h = absurd (h refl)
    only (suc (suc zero)) h = refl
    only (suc (suc (suc i))) h = refl

    alone : (s n : ℕ) → (s ≡ 0 → ⊥) → hit (stores_access 0 0) (step_at (codes s) n) ≡ 0
    alone zero n h = absurd (h refl)
    alone (suc zero) n h = each (NotHit (stores_access 0 0)) 1 (λ i. refl) (three (NotHit (stores_access 0 0)) _ _ _ refl refl refl (λ i. refl)) n
    alone (suc (suc s)) n h = each (NotHit (stores_access 0 0)) (suc (suc s)) (λ i. refl) (λ i. refl) n

wire : IsWire example half 0 0 (λ _. 0) (λ _. 1)
wire = record {
  family = record { some = omega arith; owned = owned; late = λ i h. refl; covers = stored };
  single = refl;
  apart = λ i h. absurd (omega arith);
  within = λ i h. omega arith;
  after_wait = λ i h. omega arith;
  before_advance = λ i h. omega arith;
}
  where
    owned : (i : ℕ) → i < 1 → IsOwned example (stores_access 0 i) (writer_of example half 0 (λ _. 0) (λ _. 1) i)
    owned zero h = store_owned
    owned (suc i) h = absurd (omega arith)

    stored : (s n : ℕ) → Stored (step_at (codes s) n)
    stored zero n = each Stored 0 (λ i. refl) (three Stored _ _ _ refl refl refl (λ i. refl)) n
    stored (suc zero) n = each Stored 1 (λ i. refl) (three Stored _ _ _ refl refl refl (λ i. refl)) n
    stored (suc (suc s)) n = each Stored (suc (suc s)) (λ i. refl) (λ i. refl) n

loaded : IsWireLoad example half 0 (λ _. 0) 1 1 0
loaded = record { same = refl; after_wait = omega arith; before_advance = omega arith }

waited : (s : ℕ) → s < 2 → IsOwnWait example signaller half s 0 0 s
waited s h = record { within = h; same = refl; early = omega arith }
