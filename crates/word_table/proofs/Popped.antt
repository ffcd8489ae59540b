-- The last element that is taken from a front of a list.
use Rattle.std.proofs.Common.{◌≡◌, List, [], ◌∷◌, ◌++◌, take, drop, length, Some, refl, sym, ap, ◌∙◌, append_assoc}
use Rattle.std.specs.Prelude.{slice_get}
use Rattle.std.proofs.Math.Seq.{take-append_seam}
use Rattle.std.proofs.lemmas.List.{take-append-drop}

module _ {A : Type 0} where
  at_seam : (xs : List A) (d : A) (ys : List A) → slice_get (xs ++ d ∷ ys) (length xs) ≡ Some d
  at_seam [] d ys = refl
  at_seam (x ∷ xs) d ys = at_seam xs d ys

  pub popped : (all old new : List A) (d : A) → old ≡ take (length old) all → old ≡ new ++ d ∷ [] → (new ≡ take (length new) all) × (slice_get all (length new) ≡ Some d)
  popped all old new d e q = (
    sym (ap (take (length new)) whole ∙ take-append_seam new (d ∷ drop (length old) all)),
    ap (λ (l : List A). slice_get l (length new)) whole ∙ at_seam new d (drop (length old) all),
  )
    where
      whole : all ≡ new ++ d ∷ drop (length old) all
      whole = sym (take-append-drop (length old) all) ∙ ap (λ (l : List A). l ++ drop (length old) all) (sym e ∙ q) ∙ append_assoc new (d ∷ []) (drop (length old) all)
