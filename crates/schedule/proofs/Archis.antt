-- What a valid architecture has.
use Rattle.std.proofs.Common.{◌≡◌, ℕ, zero, suc, ◌<◌, ◌≤◌, true, ◌&&◌, List, [], ◌∷◌, length, Some, ap, sym, ◌∙◌, inl, inr, arith}
use Rattle.std.specs.Prelude.{nat_eq, nat_le, nat_lt, slice_get}
use Rattle.std.specs.List.{list_all, list_any}
use Rattle.std.proofs.lemmas.Bool.{false≢true, and_parts, or_cases, leb-true, ltb-true, eqb-true}
use Rattle.std.proofs.lemmas.Option.{same_Some}
use Rattle.durations.specs.declared.Medium.{Medium}
use Rattle.durations.specs.Archi.{Architecture, are_bounded, are_distinct, are_joined, is_archi, is_medium, names_of, stands_at, connections_in}
use Rattle.durations.proofs.Bounds.{stands_below}

module _ (a : Architecture) (valid : is_archi a.operators a.media ≡ true) where
  parts : (are_bounded a.operators a.media ≡ true) × (list_all (is_medium (length a.operators)) a.media ≡ true)
  parts =
      let media = list_all (is_medium (length a.operators)) a.media in
      let distinct = are_distinct (names_of a.operators a.media) in
      let joined = are_joined (length a.operators) a.media in
      let p = and_parts (are_bounded a.operators a.media && media && distinct) joined valid in
      let q = and_parts (are_bounded a.operators a.media && media) distinct p.0 in
      and_parts (are_bounded a.operators a.media) media q.0

  pub few_operators : length a.operators ≤ 16
  few_operators =
      let p = and_parts (nat_le 1 (length a.operators) && nat_le (length a.operators) 16 && nat_le (length a.media) 16) (nat_le (connections_in a.media) 64) parts.0 in
      let q = and_parts (nat_le 1 (length a.operators) && nat_le (length a.operators) 16) (nat_le (length a.media) 16) p.0 in
      leb-true (length a.operators) 16 (and_parts (nat_le 1 (length a.operators)) (nat_le (length a.operators) 16) q.0).1

  pub few_media : length a.media ≤ 16
  few_media =
      let p = and_parts (nat_le 1 (length a.operators) && nat_le (length a.operators) 16 && nat_le (length a.media) 16) (nat_le (connections_in a.media) 64) parts.0 in
      leb-true (length a.media) 16 (and_parts (nat_le 1 (length a.operators) && nat_le (length a.operators) 16) (nat_le (length a.media) 16) p.0).1

  -- at a medium stand operators that are there
  pub below : (k o : ℕ) (m : Medium) → slice_get a.media k ≡ Some m → stands_at m o ≡ true → o < length a.operators
  below k o m e h = among m.stands (stands_below (length a.operators) m (medium_at a.media k parts.1 e)) h
    where
      medium_at : (ms : List Medium) (k : ℕ) → list_all (is_medium (length a.operators)) ms ≡ true → slice_get ms k ≡ Some m → is_medium (length a.operators) m ≡ true
      medium_at [] k h e = absurd cc
      medium_at (x ∷ xs) zero h e = ap (is_medium (length a.operators)) (sym (same_Some x m e)) ∙ (and_parts (is_medium (length a.operators) x) (list_all (is_medium (length a.operators)) xs) h).0
      medium_at (x ∷ xs) (suc k) h e = medium_at xs k (and_parts (is_medium (length a.operators) x) (list_all (is_medium (length a.operators)) xs) h).1 e

      among : (xs : List ℕ) → list_all (λ o. nat_lt o (length a.operators)) xs ≡ true → list_any (nat_eq o) xs ≡ true → o < length a.operators
      among [] b h = absurd (false≢true h)
      among (x ∷ xs) b h =
          let r = and_parts (nat_lt x (length a.operators)) (list_all (λ o. nat_lt o (length a.operators)) xs) b in
          elim (or_cases (nat_eq o x) (list_any (nat_eq o) xs) h) [
            | inl e ↦ (let s = eqb-true o x e in let l = ltb-true x (length a.operators) r.0 in omega arith)
            | inr e ↦ among xs r.1 e
          ]
