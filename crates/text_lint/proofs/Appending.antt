-- One case more.
use Rattle.std.proofs.Common.{◌≡◌, ℕ, suc, ◌+◌, ◌<◌, ◌≤◌, ◌++◌, List, [], ◌∷◌, length, get_or, drop, sym, ap, arith, append_assoc, ◌∙◌}
use Rattle.std.specs.List.{flat_map}
use Rattle.std.proofs.Math.Seq.{drop-cons}
use Rattle.std.proofs.lemmas.List.{append-nil, drop_all}
use Rattle.std.proofs.lemmas.List.Concat.{flat_map-cons}

module _ {A B : Type 0} (f : A → List B) where
  -- what is there, with what one more gives and with what is left, is the whole
  pub appended : (xs : List A) (i : ℕ) (x : A) (old new whole : List B) → i < length xs → x ≡ get_or xs i x → new ≡ old ++ f x
      → old ++ flat_map f (drop i xs) ≡ whole → new ++ flat_map f (drop (i + 1) xs) ≡ whole
  appended xs i x old new whole inside is added before =
      let one : suc i ≡ i + 1 = omega arith in
      let cut : drop i xs ≡ x ∷ drop (i + 1) xs =
      drop-cons xs i x inside ∙ (λ j. sym is j ∷ drop (one j) xs) in
      ap (λ (ys : List B). ys ++ flat_map f (drop (i + 1) xs)) added
      ∙ append_assoc old (f x) (flat_map f (drop (i + 1) xs))
      ∙ ap (λ (ys : List B). old ++ ys) (sym (ap (λ (ys : List A). flat_map f ys) cut ∙ flat_map-cons f x (drop (i + 1) xs)))
      ∙ before

  -- where nothing is left, it is the whole
  pub appended_all : (xs : List A) (i : ℕ) (found whole : List B) → length xs ≤ i → found ++ flat_map f (drop i xs) ≡ whole → found ≡ whole
  appended_all xs i found whole past before =
      sym (ap (λ (ys : List A). found ++ flat_map f ys) (drop_all i xs past) ∙ append-nil found) ∙ before
