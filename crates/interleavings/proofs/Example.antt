-- A writer and a reader of one element meet the hypotheses of the laws.
use Rattle.std.proofs.Common.{◌≡◌, ℕ, zero, suc, ◌+◌, ◌<◌, ◌≤◌, ◌⊎◌, Bool, true, false, cond, ltb, List, [], ◌∷◌, length, Some, refl, sym, subst, inl, inr, ⊎_elim, arith, ℤ, pos, ap, ◌∙◌, add-one}
use Rattle.std.specs.Prelude.{slice_get}
use Rattle.std.proofs.lemmas.Bool.{le-ltb}
use Rattle.std.proofs.lemmas.Option.{same_Some}
use Rattle.interleavings.specs.Sites.{Code, step_at, place_at, hit, IsSite}
use Rattle.interleavings.specs.System.{System, Micro, take, see, signal, await, load, store, is_take, is_signal, stores, sub, advance}
use Rattle.interleavings.specs.Owners.{Owner, IsOwned}
use Rattle.interleavings.specs.Media.{Half}
use Rattle.interleavings.specs.Pairs.{Pair, IsSemaphore, IsPair, late}
use Rattle.interleavings.specs.Order.{IsJoined, IsOrdered}
use Rattle.interleavings.specs.Sound.{IsRightAt, AreValues}
use Rattle.interleavings.specs.Synchronized.{IsBinary, IsBuffer, IsPairLoad, IsSynchronized}
use Rattle.interleavings.specs.Laws.{Discipline, IsDisciplined}

abbrev codes : ℕ → Code Micro
codes zero = record { prologue = []; turn = take 0 ∷ store 0 0 ∷ signal 1 ∷ [] }
codes (suc zero) = record { prologue = signal 0 ∷ []; turn = take 1 ∷ load 0 0 ∷ signal 0 ∷ [] }
codes (suc (suc s)) = record { prologue = []; turn = [] }

abbrev example : System (List ℤ)
example = record {
  sequences = 2;
  reactions = 5;
  codes = codes;
  halves = λ _. 0;
  period = λ _. 1;
  depth = λ _. 1;
  start = λ _. [];
  absorb = λ _ _ xs v. v ∷ [];
  emit = λ _ _ _. pos 7;
  after = λ _ _ xs. xs;
}

abbrev signaller : ℕ → Owner
signaller zero = record { sequence = 1; site = record { first = 0; early = 1; place = 2 } }
signaller (suc x) = late 0 2

abbrev half : ℕ → ℕ → Half
half _ _ = record { sequence = 0; waits = 0; advances = 0 }

-- a test that no element of either list passes is never hit
never : (p : Micro → Bool) (c : Code Micro) → ((i : ℕ) → hit p (slice_get c.prologue i) ≡ 0) → ((i : ℕ) → hit p (slice_get c.turn i) ≡ 0) → (n : ℕ) → hit p (step_at c n) ≡ 0
never p c f t n = by (ltb n (length c.prologue))
  where
    by : (b : Bool) → hit p (cond b (slice_get c.prologue n) (slice_get c.turn (place_at c n))) ≡ 0
    by true = f n
    by false = t (place_at c n)

none : {A : Type 0} (p : A → Bool) (i : ℕ) → hit p (slice_get [] i) ≡ 0
none p i = refl

nowhere : (p : Micro → Bool) (s : ℕ) (n : ℕ) → hit p (step_at (codes (suc (suc s))) n) ≡ 0
nowhere p s n = never p (codes (suc (suc s))) (λ i. refl) (λ i. refl) n

three : (p : Micro → Bool) (a b c : Micro) → hit p (Some a) ≡ 0 → hit p (Some b) ≡ 0 → hit p (Some c) ≡ 0 → (i : ℕ) → hit p (slice_get (a ∷ b ∷ c ∷ []) i) ≡ 0
three p a b c ha hb hc zero = ha
three p a b c ha hb hc (suc zero) = hb
three p a b c ha hb hc (suc (suc zero)) = hc
three p a b c ha hb hc (suc (suc (suc i))) = refl

one : (p : Micro → Bool) (a : Micro) → hit p (Some a) ≡ 0 → (i : ℕ) → hit p (slice_get (a ∷ []) i) ≡ 0
one p a ha zero = ha
one p a ha (suc i) = refl

writer_takes : IsOwned example (is_take 0) (late 0 0)
writer_takes = record {
  here = omega arith;
  site = record { within = omega arith; here = refl; only = only; within_early = omega arith; here_early = λ i a b. absurd (omega arith); before_early = λ i a. refl; after_early = λ i a. refl };
  alone = alone;
}
  where
    only : (i : ℕ) → (i ≡ 0 → ⊥) → hit (is_take 0) (slice_get (codes 0).turn i) ≡ 0
    only zero h = absurd (h refl)
    only (suc zero) h = refl
    only (suc (suc zero)) h = refl
    only (suc (suc (suc i))) h = refl

    alone : (s n : ℕ) → (s ≡ 0 → ⊥) → hit (is_take 0) (step_at (codes s) n) ≡ 0
    alone zero n h = absurd (h refl)
    alone (suc zero) n h = never (is_take 0) (codes 1) (one (is_take 0) (signal 0) refl) (three (is_take 0) (take 1) (load 0 0) (signal 0) refl refl refl) n
    alone (suc (suc s)) n h = nowhere (is_take 0) s n

reader_signals : IsOwned example (is_signal 0) (record { sequence = 1; site = record { first = 0; early = 1; place = 2 } })
reader_signals = record {
  here = omega arith;
  site = record { within = omega arith; here = refl; only = only; within_early = omega arith; here_early = early; before_early = λ i a. absurd (omega arith); after_early = after };
  alone = alone;
}
  where
    only : (i : ℕ) → (i ≡ 2 → ⊥) → hit (is_signal 0) (slice_get (codes 1).turn i) ≡ 0
    only zero h = refl
    only (suc zero) h = refl
    only (suc (suc zero)) h = absurd (h refl)
    only (suc (suc (suc i))) h = refl

    early : (i : ℕ) → 0 ≤ i → i < 0 + 1 → hit (is_signal 0) (slice_get (codes 1).prologue i) ≡ 1
    early zero a b = refl
    early (suc i) a b = absurd (omega arith)

    after : (i : ℕ) → 0 + 1 ≤ i → hit (is_signal 0) (slice_get (codes 1).prologue i) ≡ 0
    after zero a = absurd (omega arith)
    after (suc i) a = refl

    alone : (s n : ℕ) → (s ≡ 1 → ⊥) → hit (is_signal 0) (step_at (codes s) n) ≡ 0
    alone zero n h = never (is_signal 0) (codes 0) (λ i. refl) (three (is_signal 0) (take 0) (store 0 0) (signal 1) refl refl refl) n
    alone (suc zero) n h = absurd (h refl)
    alone (suc (suc s)) n h = nowhere (is_signal 0) s n

-- the other three tests are owned by one late place each
late_owned : (p : Micro → Bool) (s a : ℕ) → s < 2 → IsSite p (codes s) (record { first = 0; early = 0; place = a })
    → ((t n : ℕ) → (t ≡ s → ⊥) → hit p (step_at (codes t) n) ≡ 0) → IsOwned example p (late s a)
late_owned p s a h site alone = record { here = h; site = site; alone = alone }

writer_signals : IsOwned example (is_signal 1) (late 0 2)
writer_signals = late_owned (is_signal 1) 0 2 (omega arith)
    (record { within = omega arith; here = refl; only = only; within_early = omega arith; here_early = λ i a b. absurd (omega arith); before_early = λ i a. refl; after_early = λ i a. refl }) alone
  where
    only : (i : ℕ) → (i ≡ 2 → ⊥) → hit (is_signal 1) (slice_get (codes 0).turn i) ≡ 0
    only zero h = refl
    only (suc zero) h = refl
    only (suc (suc zero)) h = absurd (h refl)
    only (suc (suc (suc i))) h = refl

    alone : (s n : ℕ) → (s ≡ 0 → ⊥) → hit (is_signal 1) (step_at (codes s) n) ≡ 0
    alone zero n h = absurd (h refl)
    alone (suc zero) n h = never (is_signal 1) (codes 1) (one (is_signal 1) (signal 0) refl) (three (is_signal 1) (take 1) (load 0 0) (signal 0) refl refl refl) n
    alone (suc (suc s)) n h = nowhere (is_signal 1) s n

reader_takes : IsOwned example (is_take 1) (late 1 0)
reader_takes = late_owned (is_take 1) 1 0 (omega arith)
    (record {
      within = omega arith;
      here = refl;
      only = only;
      within_early = omega arith;
      here_early =
          λ i a b. absurd (omega arith);
      before_early = λ i a. absurd (omega arith);
      after_early = λ i a. one (is_take 1) (signal 0) refl i;
    }) alone
  where
    only : (i : ℕ) → (i ≡ 0 → ⊥) → hit (is_take 1) (slice_get (codes 1).turn i) ≡ 0
    only zero h = absurd (h refl)
    only (suc zero) h = refl
    only (suc (suc zero)) h = refl
    only (suc (suc (suc i))) h = refl

    alone : (s n : ℕ) → (s ≡ 1 → ⊥) → hit (is_take 1) (step_at (codes s) n) ≡ 0
    alone zero n h = never (is_take 1) (codes 0) (λ i. refl) (three (is_take 1) (take 0) (store 0 0) (signal 1) refl refl refl) n
    alone (suc zero) n h = absurd (h refl)
    alone (suc (suc s)) n h = nowhere (is_take 1) s n

writer_stores : IsOwned example (stores 0) (late 0 1)
writer_stores = late_owned (stores 0) 0 1 (omega arith)
    (record { within = omega arith; here = refl; only = only; within_early = omega arith; here_early = λ i a b. absurd (omega arith); before_early = λ i a. refl; after_early = λ i a. refl }) alone
  where
    only : (i : ℕ) → (i ≡ 1 → ⊥) → hit (stores 0) (slice_get (codes 0).turn i) ≡ 0
    only zero h = refl
    only (suc zero) h = absurd (h refl)
    only (suc (suc zero)) h = refl
    only (suc (suc (suc i))) h = refl

    alone : (s n : ℕ) → (s ≡ 0 → ⊥) → hit (stores 0) (step_at (codes s) n) ≡ 0
    alone zero n h = absurd (h refl)
    alone (suc zero) n h = never (stores 0) (codes 1) (one (stores 0) (signal 0) refl) (three (stores 0) (take 1) (load 0 0) (signal 0) refl refl refl) n
    alone (suc (suc s)) n h = nowhere (stores 0) s n

empty_is : IsSemaphore example signaller 0 0 0 0
empty_is = record { taken = writer_takes; signalled = reader_signals; before = omega arith; asked = inl refl }

full_is : IsSemaphore example signaller 1 1 0 0
full_is = record { taken = reader_takes; signalled = writer_signals; before = omega arith; asked = inl refl }

abbrev pair : Pair
pair = record { empty = 0; full = 1; depth = 1; writer = 0; ask_empty = 0; take_empty = 0; signal_full = 2; reader = 1; ask_full = 0; take_full = 0; signal_empty = 2; front = 0 }

pair_is : IsPair example signaller pair
pair_is = record { empty_is = empty_is; full_is = full_is; empty_by = refl; full_by = refl; in_writer = omega arith; in_reader = omega arith }

abbrev spot : ℕ → ℕ → ℕ
spot zero l = l
spot (suc s) l = 3 + l

-- which micro-step stands where
take_in : (s l x : ℕ) → (slice_get (codes s).turn l ≡ Some (take x)) ⊎ (slice_get (codes s).turn l ≡ Some (see x)) → ((s ≡ 0) × (l ≡ 0) × (x ≡ 0)) ⊎ ((s ≡ 1) × (l ≡ 0) × (x ≡ 1))
take_in zero zero x (inl e) = inl (refl, refl, cc)
take_in zero zero x (inr e) = absurd cc
take_in zero (suc zero) x (inl e) = absurd cc
take_in zero (suc zero) x (inr e) = absurd cc
take_in zero (suc (suc zero)) x (inl e) = absurd cc
take_in zero (suc (suc zero)) x (inr e) = absurd cc
take_in zero (suc (suc (suc l))) x (inl e) = absurd cc
take_in zero (suc (suc (suc l))) x (inr e) = absurd cc
take_in (suc zero) zero x (inl e) = inr (refl, refl, cc)
take_in (suc zero) zero x (inr e) = absurd cc
take_in (suc zero) (suc zero) x (inl e) = absurd cc
take_in (suc zero) (suc zero) x (inr e) = absurd cc
take_in (suc zero) (suc (suc zero)) x (inl e) = absurd cc
take_in (suc zero) (suc (suc zero)) x (inr e) = absurd cc
take_in (suc zero) (suc (suc (suc l))) x (inl e) = absurd cc
take_in (suc zero) (suc (suc (suc l))) x (inr e) = absurd cc
take_in (suc (suc s)) l x (inl e) = absurd cc
take_in (suc (suc s)) l x (inr e) = absurd cc

await_in : (s l m i : ℕ) (b : Bool) → slice_get (codes s).turn l ≡ Some (await m i b) → ⊥
await_in zero zero m i b e = cc
await_in zero (suc zero) m i b e = cc
await_in zero (suc (suc zero)) m i b e = cc
await_in zero (suc (suc (suc l))) m i b e = cc
await_in (suc zero) zero m i b e = cc
await_in (suc zero) (suc zero) m i b e = cc
await_in (suc zero) (suc (suc zero)) m i b e = cc
await_in (suc zero) (suc (suc (suc l))) m i b e = cc
await_in (suc (suc s)) l m i b e = cc

load_in : (s l y i : ℕ) → slice_get (codes s).turn l ≡ Some (load y i) → (s ≡ 1) × (l ≡ 1) × (y ≡ 0) × (i ≡ 0)
load_in zero zero y i e = absurd cc
load_in zero (suc zero) y i e = absurd cc
load_in zero (suc (suc zero)) y i e = absurd cc
load_in zero (suc (suc (suc l))) y i e = absurd cc
load_in (suc zero) zero y i e = absurd cc
load_in (suc zero) (suc zero) y i e = (refl, refl, cc, cc)
load_in (suc zero) (suc (suc zero)) y i e = absurd cc
load_in (suc zero) (suc (suc (suc l))) y i e = absurd cc
load_in (suc (suc s)) l y i e = absurd cc

store_in : (s l y i : ℕ) → slice_get (codes s).turn l ≡ Some (store y i) → (s ≡ 0) × (l ≡ 1) × (y ≡ 0) × (i ≡ 0)
store_in zero zero y i e = absurd cc
store_in zero (suc zero) y i e = (refl, refl, cc, cc)
store_in zero (suc (suc zero)) y i e = absurd cc
store_in zero (suc (suc (suc l))) y i e = absurd cc
store_in (suc zero) zero y i e = absurd cc
store_in (suc zero) (suc zero) y i e = absurd cc
store_in (suc zero) (suc (suc zero)) y i e = absurd cc
store_in (suc zero) (suc (suc (suc l))) y i e = absurd cc
store_in (suc (suc s)) l y i e = absurd cc

lower_in : (s l x : ℕ) → slice_get (codes s).turn l ≡ Some (sub x) → ⊥
lower_in zero zero x e = absurd cc
lower_in zero (suc zero) x e = absurd cc
lower_in zero (suc (suc zero)) x e = absurd cc
lower_in zero (suc (suc (suc l))) x e = absurd cc
lower_in (suc zero) zero x e = absurd cc
lower_in (suc zero) (suc zero) x e = absurd cc
lower_in (suc zero) (suc (suc zero)) x e = absurd cc
lower_in (suc zero) (suc (suc (suc l))) x e = absurd cc
lower_in (suc (suc s)) l x e = absurd cc

Taken : ℕ → ℕ → ℕ → Type 0
Taken s l x = (t : ℕ) × IsSemaphore example signaller x s l t

taken_at : (s l x : ℕ) → ((s ≡ 0) × (l ≡ 0) × (x ≡ 0)) ⊎ ((s ≡ 1) × (l ≡ 0) × (x ≡ 1)) → Taken s l x
unfolding Taken
taken_at s l x (inl q) = subst (λ (a : ℕ). Taken a l x) (sym q.0) (subst (λ (a : ℕ). Taken 0 a x) (sym q.1) (subst (λ (a : ℕ). Taken 0 0 a) (sym q.2) (0, empty_is)))
taken_at s l x (inr q) = subst (λ (a : ℕ). Taken a l x) (sym q.0) (subst (λ (a : ℕ). Taken 1 a x) (sym q.1) (subst (λ (a : ℕ). Taken 1 0 a) (sym q.2) (0, full_is)))

front_in : (s i : ℕ) (m : Micro) → slice_get (codes s).prologue i ≡ Some m → (x : ℕ) × (m ≡ signal x)
front_in zero i m e = absurd cc
front_in (suc zero) zero m e = (0, cc)
front_in (suc zero) (suc i) m e = absurd cc
front_in (suc (suc s)) i m e = absurd cc

joined : IsJoined example signaller half
unfolding Taken
joined = record {
  prologue = front_in;
  takes = λ s l x e. taken_at s l x (take_in s l x e);
  lowers = λ s l x e. absurd (lower_in s l x e);
  waits = λ s l m i e. absurd (await_in s l m i true e);
  syncs = λ s l m i e. absurd (await_in s l m i false e);
}

binary_at : (x : ℕ) → (x ≡ 0) ⊎ (x ≡ 1) → IsBinary example signaller half x
binary_at x q = record { pair = pair; is_pair = pair_is; one_place = refl; is_one = q }

buffer_is : IsBuffer example signaller half 0 0 1
buffer_is = record { written = writer_stores; once = refl; some = omega arith }

pair_load : IsPairLoad example signaller half 1 1 0 0
pair_load = record {
  pair = pair;
  is_pair = pair_is;
  same = refl;
  depth = refl;
  st = 1;
  buffer = buffer_is;
  first = refl;
  store_after = omega arith;
  store_before = omega arith;
  load_after = omega arith;
  load_before = omega arith;
}

signal_in : (s n x : ℕ) → step_at (codes s) n ≡ Some (signal x) → (x ≡ 0) ⊎ (x ≡ 1)
signal_in zero n x e = either (ltb n 0) e
  where
    by : (i : ℕ) → slice_get (codes 0).turn i ≡ Some (signal x) → (x ≡ 0) ⊎ (x ≡ 1)
    by zero e = absurd cc
    by (suc zero) e = absurd cc
    by (suc (suc zero)) e = inr cc
    by (suc (suc (suc i))) e = absurd cc

    either : (b : Bool) → cond b (slice_get (codes 0).prologue n) (slice_get (codes 0).turn (place_at (codes 0) n)) ≡ Some (signal x) → (x ≡ 0) ⊎ (x ≡ 1)
    either true e = absurd cc
    either false e = by (place_at (codes 0) n) e
signal_in (suc zero) n x e = either (ltb n 1) e
  where
    front : (i : ℕ) → slice_get (codes 1).prologue i ≡ Some (signal x) → (x ≡ 0) ⊎ (x ≡ 1)
    front zero e = inl cc
    front (suc i) e = absurd cc

    turn : (i : ℕ) → slice_get (codes 1).turn i ≡ Some (signal x) → (x ≡ 0) ⊎ (x ≡ 1)
    turn zero e = absurd cc
    turn (suc zero) e = absurd cc
    turn (suc (suc zero)) e = inl cc
    turn (suc (suc (suc i))) e = absurd cc

    either : (b : Bool) → cond b (slice_get (codes 1).prologue n) (slice_get (codes 1).turn (place_at (codes 1) n)) ≡ Some (signal x) → (x ≡ 0) ⊎ (x ≡ 1)
    either true e = front n e
    either false e = turn (place_at (codes 1) n) e
signal_in (suc (suc s)) n x e = by (ltb n 0) e
  where
    by : (b : Bool) → cond b (slice_get (codes (suc (suc s))).prologue n) (slice_get (codes (suc (suc s))).turn (place_at (codes (suc (suc s))) n)) ≡ Some (signal x) → (x ≡ 0) ⊎ (x ≡ 1)
    by true e = absurd cc
    by false e = absurd cc

Signalled : ℕ → Type 0
Signalled x = (t : ℕ) × (a : ℕ) × (b : ℕ) × IsSemaphore example signaller x t a b

synchronized : IsSynchronized example signaller half
unfolding Signalled
synchronized = record {
  joined = joined;
  binary = λ s l x e. binary_at x (⊎_elim (λ q. inl q.2) (λ q. inr q.2) (take_in s l x (inl e)));
  signalled = λ s n x e. ⊎_elim (λ q. subst Signalled (sym q) (0, 0, 0, empty_is)) (λ q. subst Signalled (sym q) (1, 0, 0, full_is)) (signal_in s n x e);
  loads = λ s l y i e. let q = load_in s l y i e in
      inr (inl (subst (λ (a : ℕ). IsPairLoad example signaller half a l y i) (sym q.0) (subst (λ (a : ℕ). IsPairLoad example signaller half 1 a y i) (sym q.1)
      (subst (λ (a : ℕ). IsPairLoad example signaller half 1 1 a i) (sym q.2) (subst (λ (a : ℕ). IsPairLoad example signaller half 1 1 0 a) (sym q.3) pair_load)))));
  stores = λ s l y i e. let q = store_in s l y i e in inl (record {
    buffer = subst (λ (a : ℕ). IsBuffer example signaller half y a l) (sym q.0)
        (subst (λ (a : ℕ). IsBuffer example signaller half y 0 a) (sym q.1) (subst (λ (a : ℕ). IsBuffer example signaller half a 0 1) (sym q.2) buffer_is));
    first = q.3;
  });
}

ordered : IsOrdered example signaller half spot 6 1
ordered = record {
  below = below;
  rises = rises;
  fronts = fronts;
  signal_first = first;
  half_first = λ s l m i e q x. absurd (await_in s l m (i + 1) e q);
}
  where
    below : (s l : ℕ) → l < length (codes s).turn → spot s l < 6
    below zero l h = omega arith
    below (suc zero) l h = omega arith
    below (suc (suc s)) l h = absurd (omega arith)

    rises : (s l m : ℕ) → l < m → m < length (codes s).turn → spot s l < spot s m
    rises zero l m h k = h
    rises (suc s) l m h k = omega arith

    fronts : (s : ℕ) → length (codes s).prologue ≤ 1
    fronts zero = omega arith
    fronts (suc zero) = omega arith
    fronts (suc (suc s)) = omega arith

    first : (x s l t : ℕ) → IsSemaphore example signaller x s l t → (signaller x).site.early ≡ 0 → spot (signaller x).sequence (signaller x).site.place < spot s l
    first zero s l t o e = absurd (omega arith)
    first (suc x) s l t o e = ⊎_elim (λ q. absurd (let z = q.2 in omega arith))
        (λ q. subst (λ (a : ℕ). 2 < spot a l) (sym q.0) (subst (λ (a : ℕ). 2 < spot 1 a) (sym q.1) (omega arith))) (take_in s l (suc x) o.asked)

-- the writer stores 7 in every round, and the reader keeps what it loaded
abbrev stored : ℕ → ℕ → ℤ
stored y t = pos 7

abbrev owned : ℕ → ℕ → List ℤ
owned zero n = []
owned (suc zero) n = cond (ltb n 3) [] (pos 7 ∷ [])
owned (suc (suc s)) n = []

owned_then : (n : ℕ) → owned 1 (suc (suc (suc n))) ≡ pos 7 ∷ []
owned_then n = rw (le-ltb (suc (suc (suc n))) 3 (omega arith)) refl

same_later : (n : ℕ) → owned 1 (suc (suc (suc n)) + 1) ≡ owned 1 (suc (suc (suc n)))
same_later n = ap (owned 1) (add-one (suc (suc (suc n)))) ∙ owned_then (suc n) ∙ sym (owned_then n)

-- what the reader keeps changes with its first load alone
kept : (n : ℕ) → (n ≡ 2 → ⊥) → owned 1 (n + 1) ≡ owned 1 n
kept zero h = refl
kept (suc zero) h = refl
kept (suc (suc zero)) h = absurd (h refl)
kept (suc (suc (suc n))) h = same_later n

not_third : (m : Micro) (n : ℕ) → step_at (codes 1) n ≡ Some m → (load 0 0 ≡ m → ⊥) → n ≡ 2 → ⊥
not_third m n e h q = h (same_Some (load 0 0) m (subst (λ (i : ℕ). step_at (codes 1) i ≡ Some m) q e))

-- the writer loads nothing, and no other sequence has a step
no_load : (n y i : ℕ) → step_at (codes 0) n ≡ Some (load y i) → ⊥
no_load n y i e = by (ltb n 0) e
  where
    by : (b : Bool) → cond b (slice_get (codes 0).prologue n) (slice_get (codes 0).turn (place_at (codes 0) n)) ≡ Some (load y i) → ⊥
    by true e = cc
    by false e = let q = load_in 0 (place_at (codes 0) n) y i e in absurd (omega arith)

idle : (s n : ℕ) (m : Micro) → step_at (codes (suc (suc s))) n ≡ Some m → ⊥
idle s n m e = by (ltb n 0) e
  where
    by : (b : Bool) → cond b (slice_get (codes (suc (suc s))).prologue n) (slice_get (codes (suc (suc s))).turn (place_at (codes (suc (suc s))) n)) ≡ Some m → ⊥
    by true e = cc
    by false e = cc

loaded : (n y i : ℕ) → step_at (codes 1) n ≡ Some (load y i) → owned 1 (n + 1) ≡ pos 7 ∷ []
loaded zero y i e = absurd cc
loaded (suc zero) y i e = absurd cc
loaded (suc (suc zero)) y i e = refl
loaded (suc (suc (suc n))) y i e = same_later n ∙ owned_then n

right : (s n : ℕ) (m : Micro) → step_at (codes s) n ≡ Some m → IsRightAt example stored owned s n m
right zero n (take x) e = refl
right zero n (see x) e = refl
right zero n (sub x) e = refl
right zero n (signal x) e = refl
right zero n (await m i b) e = refl
right zero n (advance m i) e = refl
right zero n (load y i) e = absurd (no_load n y i e)
right zero n (store y i) e = (refl, refl)
right (suc zero) n (take x) e = kept n (not_third (take x) n e (λ q. cc))
right (suc zero) n (see x) e = kept n (not_third (see x) n e (λ q. cc))
right (suc zero) n (sub x) e = kept n (not_third (sub x) n e (λ q. cc))
right (suc zero) n (signal x) e = kept n (not_third (signal x) n e (λ q. cc))
right (suc zero) n (await m i b) e = kept n (not_third (await m i b) n e (λ q. cc))
right (suc zero) n (advance m i) e = kept n (not_third (advance m i) n e (λ q. cc))
right (suc zero) n (load y i) e = loaded n y i e
right (suc zero) n (store y i) e = (refl, kept n (not_third (store y i) n e (λ q. cc)))
right (suc (suc s)) n m e = absurd (idle s n m e)

abbrev discipline : Discipline
discipline = record { signaller = signaller; half = half; spot = spot; steps = 6; front = 1 }

values : AreValues example stored owned
values = record { first = first; right = λ s n m h e. right s n m e }
  where
    first : (s : ℕ) → owned s 0 ≡ []
    first zero = refl
    first (suc zero) = refl
    first (suc (suc s)) = refl

disciplined : IsDisciplined example discipline stored owned
disciplined = record { synchronized = synchronized; ordered = ordered; values = values }
