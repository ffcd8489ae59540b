-- What holds of every place that may be told, and what is right where none is told.
use Rattle.std.proofs.Common.{◌≡◌, ℕ, zero, suc, ◌+◌, ◌<◌, ◌≤◌, Bool, true, false, List, [], ◌∷◌, length, refl, ap, subst, arith, zero-add, ◌∙◌}
use Rattle.std.specs.Prelude.{Option, Some, None, slice_get}
use Rattle.std.specs.List.{range_with_len}
use Rattle.std.proofs.lemmas.Option.{same_Some}
use Rattle.sequence_build_laws.specs.MicroSteps.{first_of}
use Rattle.program_tables.specs.declared.mark_table.Mark.{Mark}
use Rattle.check_places.specs.declared.place.Place.{Place}
use Rattle.check_places.specs.declared.place.Rule.{Rule}
use Rattle.check_places.specs.declared.place.Subject.{Subject}
use Rattle.check_places.specs.First.{broken_at, first_below, first_from, in_loop, unless}
use Rattle.check_places.proofs.Places.{each_none, giver}

-- the numbers of a range, and their places
pub range_at : (a n i : ℕ) → i < n → slice_get (range_with_len a n) i ≡ Some (a + i)
range_at a zero i l = absurd (omega arith)
range_at a (suc n) zero l = ap (λ (k : ℕ). Some k) (let e : a ≡ a + 0 = omega arith in e)
range_at a (suc n) (suc i) l =
    range_at (a + 1) n i (omega arith) ∙ ap (λ (k : ℕ). Some k) (let e : a + 1 + i ≡ a + suc i = omega arith in e)

range_in : (a n i k : ℕ) → slice_get (range_with_len a n) i ≡ Some k → (a ≤ k) × (k < a + n)
range_in a zero i k e = absurd cc
range_in a (suc n) zero k e = let same = same_Some a k e in (omega (arith, same), omega (arith, same))
range_in a (suc n) (suc i) k e = let r = range_in (a + 1) n i k e in (omega (arith, r.0), omega (arith, r.1))

range_is : (a n i k : ℕ) → slice_get (range_with_len a n) i ≡ Some k → a + i ≡ k
range_is a zero i k e = absurd cc
range_is a (suc n) zero k e = let same = same_Some a k e in omega (arith, same)
range_is a (suc n) (suc i) k e = let r = range_is (a + 1) n i k e in omega (arith, r)

-- an element within a list
pub some_at : {X : Type 0} (xs : List X) (i : ℕ) → i < length xs → (x : X) × (slice_get xs i ≡ Some x)
some_at [] i l = absurd (omega arith)
some_at (x ∷ xs) zero l = (x, refl)
some_at (x ∷ xs) (suc i) l = some_at xs i (omega arith)

-- none where none of several is
pub none_at : {X : Type 0} (f : ℕ → X → Option Place) (xs : List X) → first_from f 0 xs ≡ None → (i : ℕ) (x : X) → slice_get xs i ≡ Some x → f i x ≡ None
none_at f xs h i x e = subst (λ (k : ℕ). f k x ≡ None) (zero-add i) (each_none f 0 xs h i x e)

pub none_below_at : (place : ℕ → Option Place) (n : ℕ) → first_below place n ≡ None → (k : ℕ) → k < n → place k ≡ None
none_below_at place n h k l =
    none_at (λ _ k. place k) (range_with_len 0 n) h k k (range_at 0 n k l ∙ ap (λ (i : ℕ). Some i) (zero-add k))

-- of each place that may be told this holds
abbrev pub Tells : (Place → Type 0) → Option Place → Type 0
Tells P o = (y : Place) → o ≡ Some y → P y

module _ (P : Place → Type 0) where
  pub tells_one : (x : Place) → P x → Tells P (Some x)
  tells_one x h y e = subst P (same_Some x y e) h

  pub tells_first : (o u : Option Place) → Tells P o → (o ≡ None → Tells P u) → Tells P (first_of o u)
  tells_first None u h k y e = k refl y e
  tells_first (Some x) u h k y e = h y e

  pub tells_unless : (b : Bool) (x : Place) → (b ≡ false → P x) → Tells P (unless b (Some x))
  tells_unless true x h y e = absurd cc
  tells_unless false x h y e = subst P (same_Some x y e) (h refl)

  pub tells_mark : (rule : Rule) (subject : Subject) (o : Option Mark)
      → ((m : Mark) → o ≡ Some m → P (record { rule = rule; subject = subject; spot = in_loop m.sequence m.at })) → Tells P (broken_at rule subject o)
  tells_mark rule subject None h y e = absurd cc
  tells_mark rule subject (Some m) h y e =
      subst P (same_Some (record { rule = rule; subject = subject; spot = in_loop m.sequence m.at }) y e) (h m refl)

  -- the first of several, before which none is told
  pub tells_each : {X : Type 0} (f : ℕ → X → Option Place) (xs : List X)
      → ((i : ℕ) (x : X) → slice_get xs i ≡ Some x → ((j : ℕ) (z : X) → j < i → slice_get xs j ≡ Some z → f j z ≡ None) → Tells P (f i x))
      → Tells P (first_from f 0 xs)
  tells_each f xs h y e =
      let r = giver f 0 xs y e in
      h r.at r.element r.there (λ j z l i. subst (λ (k : ℕ). f k z ≡ None) (zero-add j) (r.before j z l i)) y
      (subst (λ (k : ℕ). f k r.element ≡ Some y) (zero-add r.at) r.gives)

  pub tells_below : (place : ℕ → Option Place) (n : ℕ) → ((k : ℕ) → k < n → ((j : ℕ) → j < k → place j ≡ None) → Tells P (place k)) → Tells P (first_below place n)
  tells_below place n h =
      tells_each (λ _ k. place k) (range_with_len 0 n) (λ i k e before.
      let r = range_in 0 n i k e in
      let same : 0 + i ≡ k = range_is 0 n i k e in
      h k (omega (arith, r.1)) (λ j l. before j j (omega (arith, same)) (range_at 0 n j (omega (arith, l, r.1)) ∙ ap (λ (i : ℕ). Some i) (zero-add j))))
