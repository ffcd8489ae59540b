-- Where there is no place, all is right of which it is made; a place comes from the first part that gives one.
use Rattle.std.proofs.Common.{◌≡◌, ℕ, zero, suc, ◌+◌, ◌<◌, Bool, true, false, cond, List, [], ◌∷◌, refl, sym, subst, arith, add-zero, ◌∙◌}
use Rattle.std.specs.Prelude.{Option, Some, None, slice_get}
use Rattle.std.proofs.lemmas.Option.{same_Some}
use Rattle.sequence_build_laws.specs.MicroSteps.{first_of}
use Rattle.program_tables.specs.declared.mark_table.Mark.{Mark}
use Rattle.std.specs.List.{list_all}
use Rattle.check_places.specs.declared.place.Place.{Place}
use Rattle.check_places.specs.declared.place.Rule.{Rule}
use Rattle.check_places.specs.declared.place.Subject.{Subject}
use Rattle.check_places.specs.First.{broken_at, first_failing, first_from, unless}

pub none_parts : {A : Type 0} (o y : Option A) → first_of o y ≡ None → (o ≡ None) × (y ≡ None)
none_parts None y e = (refl, e)
none_parts (Some x) y e = absurd cc

pub holds_of : (b : Bool) (x : Place) → unless b (Some x) ≡ None → b ≡ true
holds_of true x e = refl
holds_of false x e = absurd cc

module _ {X : Type 0} (f : ℕ → X → Option Place) where
  pub each_none : (n : ℕ) (xs : List X) → first_from f n xs ≡ None → (i : ℕ) (x : X) → slice_get xs i ≡ Some x → f (n + i) x ≡ None
  each_none n [] h i x e = absurd cc
  each_none n (y ∷ ys) h zero x e =
      let same : y ≡ x = cc in
      rw add-zero (subst (λ z. f n z ≡ None) same (none_parts (f n y) (first_from f (n + 1) ys) h).0)
  each_none n (y ∷ ys) h (suc i) x e =
      subst (λ (k : ℕ). f k x ≡ None) (let k : n + 1 + i ≡ n + suc i = omega arith in k)
      (each_none (n + 1) ys (none_parts (f n y) (first_from f (n + 1) ys) h).1 i x e)

  -- an element that gives the place
  pub record Gives (n : ℕ) (xs : List X) (y : Place) : Type 0 where
    pub at : ℕ
    pub element : X
    pub there : slice_get xs at ≡ Some element
    pub gives : f (n + at) element ≡ Some y
    pub before : (j : ℕ) (z : X) → j < at → slice_get xs j ≡ Some z → f (n + j) z ≡ None

  pub giver : (n : ℕ) (xs : List X) (y : Place) → first_from f n xs ≡ Some y → Gives n xs y
  giver n [] y e = absurd cc
  giver n (x ∷ xs) y e = by (f n x) refl e (λ h. giver (n + 1) xs y h)
    where
      none_before : f n x ≡ None → (r : Gives (n + 1) xs y) (j : ℕ) (z : X) → j < suc r.at → slice_get (x ∷ xs) j ≡ Some z → f (n + j) z ≡ None
      none_before none r zero z l h = rw add-zero (subst (λ (z : X). f n z ≡ None) (same_Some x z h) none)
      none_before none r (suc j) z l h =
          subst (λ (k : ℕ). f k z ≡ None) (let k : n + 1 + j ≡ n + suc j = omega arith in k) (r.before j z (omega arith) h)

      later : f n x ≡ None → Gives (n + 1) xs y → Gives n (x ∷ xs) y
      later none r = record {
        at = suc r.at;
        element = r.element;
        there = r.there;
        gives = subst (λ (k : ℕ). f k r.element ≡ Some y) (let k : n + 1 + r.at ≡ n + suc r.at = omega arith in k) r.gives;
        before = none_before none r;
      }

      by : (o : Option Place) → f n x ≡ o → first_of o (first_from f (n + 1) xs) ≡ Some y → (first_from f (n + 1) xs ≡ Some y → Gives (n + 1) xs y) → Gives n (x ∷ xs) y
      by (Some z) here h more = record {
        at = 0;
        element = x;
        there = refl;
        gives = subst (λ (k : ℕ). f k x ≡ Some y) (sym (add-zero n)) (here ∙ h);
        before = λ j z l e. absurd (omega arith);
      }
      by None none there more = later none (more there)

-- no place fails exactly where all pass
pub all_pass : (test : Mark → Bool) (ms : List Mark) → first_failing test ms ≡ None → list_all test ms ≡ true
all_pass test [] e = refl
all_pass test (m ∷ ms) e = by (test m) refl e (λ f. all_pass test ms f)
  where
    by : (b : Bool) → test m ≡ b → cond b (first_failing test ms) (Some m) ≡ None → (first_failing test ms ≡ None → list_all test ms ≡ true)
        → list_all test (m ∷ ms) ≡ true
    by true h e more = rw h (more e)
    by false h e more = absurd cc

-- the place that fails
pub record Fails (test : Mark → Bool) (ms : List Mark) (m : Mark) : Type 0 where
  pub at : ℕ
  pub there : slice_get ms at ≡ Some m
  pub fails : test m ≡ false

pub failing : (test : Mark → Bool) (ms : List Mark) (m : Mark) → first_failing test ms ≡ Some m → Fails test ms m
failing test [] m e = absurd cc
failing test (u ∷ us) m e = by (test u) refl e (λ f. failing test us m f)
  where
    by : (b : Bool) → test u ≡ b → cond b (first_failing test us) (Some u) ≡ Some m → (first_failing test us ≡ Some m → Fails test us m) → Fails test (u ∷ us) m
    by true h e more = let r = more e in record { at = suc r.at; there = r.there; fails = r.fails }
    by false h e more = let same = same_Some u m e in record { at = 0; there = e; fails = subst (λ (v : Mark). test v ≡ false) same h }

-- no mark, no place
pub no_mark : (rule : Rule) (subject : Subject) (o : Option Mark) → broken_at rule subject o ≡ None → o ≡ None
no_mark rule subject None e = refl
no_mark rule subject (Some m) e = absurd cc
