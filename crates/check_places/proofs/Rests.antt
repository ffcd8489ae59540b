-- What is left of a list in a loop: the first place of the rest, and no code where sequences are.
use Rattle.std.proofs.Common.{◌≡◌, ℕ, ◌+◌, ◌<◌, ◌≤◌, List, [], ◌∷◌, length, drop, get_or, sym, ap, refl, add-one, drop-cons, eq-eqb, ne_eqb, arith, ◌∙◌}
use Rattle.std.specs.Prelude.{Option, Some, None, nat_eq}
use Rattle.std.proofs.lemmas.List.{drop_all, length-drop}
use Rattle.sequence_build_laws.specs.declared.Seq.{Seq}
use Rattle.sequence_build_laws.specs.declared.SeqCode.{SeqCode}
use Rattle.check_places.specs.declared.place.Rule.TheVariants.{OtherSequence}
use Rattle.check_places.specs.declared.place.Subject.TheVariants.{Expected}
use Rattle.check_places.specs.declared.place.Place.{Place}
use Rattle.check_places.specs.First.{broken, first_from, unless}
use Rattle.check_places.specs.Names.{sequence_place}
use Rattle.check_places.proofs.Firsts.{finds}

-- the rest of a list from an element on
pub rest_at : {A : Type 0} (xs : List A) (i : ℕ) (d : A) → i < length xs → drop i xs ≡ get_or xs i d ∷ drop (i + 1) xs
rest_at xs i d l = rw add-one (drop-cons xs i d l)

module _ (codes : List SeqCode) (seqs : List Seq) (i : ℕ) where
  -- no code is left
  pub no_code : i ≡ length codes → i ≤ length seqs
      → unless (nat_eq (length codes) (length seqs)) (broken OtherSequence (Expected (length codes)) None) ≡ sequence_place i (drop i codes) (drop i seqs)
  no_code e l = by (drop i seqs) refl ∙ (λ j. sequence_place i (sym (drop_all i codes (omega (arith, e))) j) (drop i seqs))
    where
      by : (ys : List Seq) → drop i seqs ≡ ys
          → unless (nat_eq (length codes) (length seqs)) (broken OtherSequence (Expected (length codes)) None) ≡ sequence_place i [] ys
      by [] h =
          let n = sym (length-drop i seqs) ∙ ap (λ (zs : List Seq). length zs) h in
          λ j. unless (eq-eqb (length codes) (length seqs) (omega (arith, e, l, n)) j) (broken OtherSequence (Expected (length codes)) None)
      by (x ∷ xs) h =
          let n = sym (length-drop i seqs) ∙ ap (λ (zs : List Seq). length zs) h in
          (λ j. unless (ne_eqb (length codes) (length seqs) (λ f. omega (arith, e, n, f)) j) (broken OtherSequence (Expected (length codes)) None))
          ∙ (λ j. broken OtherSequence (Expected (sym e j)) None)

-- the first of a rest that an element gives
pub first_here : {X : Type 0} (f : ℕ → X → Option Place) (xs : List X) (i : ℕ) (x : X) (y : Place) → drop i xs ≡ x ∷ drop (i + 1) xs → f i x ≡ Some y
    → Some y ≡ first_from f i (drop i xs)
first_here f xs i x y here e = sym ((λ j. first_from f i (here j)) ∙ finds (f i x) (first_from f (i + 1) (drop (i + 1) xs)) y e)
