-- The first place of several: what is passed over gives none.
use Rattle.std.proofs.Common.{◌≡◌, ℕ, zero, suc, ◌+◌, ◌<◌, ◌≤◌, Option, Some, None, refl, ap, ◌∙◌, arith, inl, inr}
use Rattle.std.specs.Prelude.{◌⊎◌}
use Rattle.std.proofs.lemmas.Bool.{cases_lt}
use Rattle.std.specs.List.{range_with_len}
use Rattle.sequence_build_laws.specs.MicroSteps.{first_of}
use Rattle.check_places.specs.declared.place.Place.{Place}
use Rattle.check_places.specs.First.{first_below, first_from}

pub passes : {A : Type 0} (o y : Option A) → o ≡ None → first_of o y ≡ y
passes o y e = ap (λ x. first_of x y) e

pub finds : {A : Type 0} (o y : Option A) (x : A) → o ≡ Some x → first_of o y ≡ Some x
finds o y x e = ap (λ z. first_of z y) e

module _ (place : ℕ → Option Place) where
  none_from : (i a n : ℕ) → ((k : ℕ) → a ≤ k → k < a + n → place k ≡ None) → first_from (λ _ k. place k) i (range_with_len a n) ≡ None
  none_from i a zero none = refl
  none_from i a (suc n) none =
      passes (place a) (first_from (λ _ k. place k) (i + 1) (range_with_len (a + 1) n)) (none a (omega arith) (omega arith))
      ∙ none_from (i + 1) (a + 1) n (λ k l m. none k (omega arith) (omega arith))

  some_from : (i a n k : ℕ) (x : Place) → a ≤ k → k < a + n → ((j : ℕ) → a ≤ j → j < k → place j ≡ None) → place k ≡ Some x
      → first_from (λ _ k. place k) i (range_with_len a n) ≡ Some x
  some_from i a zero k x l m none e = absurd (omega arith)
  some_from i a (suc n) k x l m none e = here (cases_lt a k) (λ low. some_from (i + 1) (a + 1) n k x low (omega arith) (λ j l m. none j (omega arith) m) e)
    where
      here : (a < k) ⊎ (k ≤ a) → (a + 1 ≤ k → first_from (λ _ k. place k) (i + 1) (range_with_len (a + 1) n) ≡ Some x)
          → first_from (λ _ k. place k) i (range_with_len a (suc n)) ≡ Some x
      here (inr more) rest =
          let same : a ≡ k = omega arith in
          finds (place a) (first_from (λ _ k. place k) (i + 1) (range_with_len (a + 1) n)) x (ap place same ∙ e)
      here (inl less) rest =
          passes (place a) (first_from (λ _ k. place k) (i + 1) (range_with_len (a + 1) n)) (none a (omega arith) less)
          ∙ rest (omega arith)

  -- none of the numbers below n gives a place
  pub none_below : (n : ℕ) → ((k : ℕ) → k < n → place k ≡ None) → first_below place n ≡ None
  none_below n none = none_from 0 0 n (λ k l m. none k (omega arith))

  -- the first of the numbers below n that gives a place
  pub some_below : (n k : ℕ) (x : Place) → k < n → ((j : ℕ) → j < k → place j ≡ None) → place k ≡ Some x → first_below place n ≡ Some x
  some_below n k x l none e = some_from 0 0 n k x (omega arith) (omega arith) (λ j a b. none j b) e
