-- The first of some items that has a name, and the places of the name among all names.
use Rattle.std.proofs.Common.{◌≡◌, ◌↔◌, ◌⊎◌, inl, inr, ℕ, zero, suc, Bool, true, false, cond, List, [], ◌∷◌, map, Option, Some, None, slice_get, refl, sym, ap, ◌∙◌}
use Rattle.std.proofs.lemmas.Slice.Eq.{bytes_eq-Decides}
use Rattle.std.specs.Str.{bytes_eq}

module _ {A : Type 0} (name_of : A → List ℕ) where
  -- no item has the name
  abbrev IsNone : List A → List ℕ → Option A → Type 0
  IsNone ws p o = (o ≡ None) × ((i : ℕ) → slice_get (map name_of ws) i ≡ Some p → ⊥)

  -- the item at some place has the name
  abbrev IsAtSome : List A → List ℕ → Option A → Type 0
  IsAtSome ws p o = (i : ℕ) × ((slice_get (map name_of ws) i ≡ Some p) × (slice_get ws i ≡ o))

  not_first : (w : A) (ws : List A) (p : List ℕ) (i : ℕ) → (p ≡ name_of w → false ≡ true) → ((k : ℕ) → slice_get (map name_of ws) k ≡ Some p → ⊥)
      → slice_get (map name_of (w ∷ ws)) i ≡ Some p → ⊥
  not_first w ws p zero differs later at = let e : p ≡ name_of w = cc in let no : false ≡ true = differs e in cc
  not_first w ws p (suc i) differs later at = later i at

  one_more : (b : Bool) (w : A) (ws : List A) (p : List ℕ) (o : Option A) → (b ≡ true → p ≡ name_of w) → (p ≡ name_of w → b ≡ true)
      → IsNone ws p o ⊎ IsAtSome ws p o → IsNone (w ∷ ws) p (cond b (Some w) o) ⊎ IsAtSome (w ∷ ws) p (cond b (Some w) o)
  one_more true w ws p o here there later = inr (0, (ap Some (sym (here refl)), refl))
  one_more false w ws p o here there later = elim later [
    | inl none ↦ inl (none.0, λ i at. not_first w ws p i there none.1 at)
    | inr at ↦ inr (suc at.0, (at.1.0, at.1.1))
  ]

  abbrev pub first_named : List A → List ℕ → Option A
  first_named [] p = None
  first_named (w ∷ ws) p = cond (bytes_eq p (name_of w)) (Some w) (first_named ws p)

  -- the first item that has the name stands at some place
  first_place : (ws : List A) (p : List ℕ) → IsNone ws p (first_named ws p) ⊎ IsAtSome ws p (first_named ws p)
  first_place [] p = inl (refl, λ i at. cc)
  first_place (w ∷ ws) p = one_more (bytes_eq p (name_of w)) w ws p (first_named ws p) (bytes_eq-Decides p (name_of w)).0 (bytes_eq-Decides p (name_of w)).1 (first_place ws p)

  -- where one place alone has the name, the item there is the first that has it
  pub found_at : (ws : List A) (p : List ℕ) (names : List (List ℕ)) (place : ℕ) → names ≡ map name_of ws → ((i : ℕ) → (Some place ≡ Some i) ↔ (slice_get names i ≡ Some p))
      → slice_get ws place ≡ first_named ws p
  found_at ws p names place are found = elim (first_place ws p) [
    | inl none ↦ absurd (none.1 place (ap (λ (l : List (List ℕ)). slice_get l place) (sym are) ∙ (found place).0 refl))
    | inr at ↦
        let same : Some place ≡ Some at.0 = (found at.0).1 (ap (λ (l : List (List ℕ)). slice_get l at.0) are ∙ at.1.0) in
        let here : place ≡ at.0 = cc in
        ap (slice_get ws) here ∙ at.1.1
  ]

  -- where no place has the name, no item has it
  pub not_found : (ws : List A) (p : List ℕ) (names : List (List ℕ)) → names ≡ map name_of ws → ((i : ℕ) → (None ≡ Some i) ↔ (slice_get names i ≡ Some p)) → first_named ws p ≡ None
  not_found ws p names are found = elim (first_place ws p) [
    | inl none ↦ none.0
    | inr at ↦ let never : None ≡ Some at.0 = (found at.0).1 (ap (λ (l : List (List ℕ)). slice_get l at.0) are ∙ at.1.0) in cc
  ]
