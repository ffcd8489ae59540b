-- The arrivals that are kept, with one more.
use Rattle.std.proofs.Common.{◌≡◌, ℕ, zero, suc, List, [], ◌∷◌, Option, Some, None, refl, sym, ap, inl, inr, ◌⊎◌}
use Rattle.std.specs.Prelude.{slice_index_or, slice_set}
use Rattle.std.proofs.lemmas.Option.{same_Some}
use Rattle.comm_routing.specs.Candidates.{HasOneMore, row_at}

set_place : (row : List (Option ℕ)) (p q n date : ℕ) → slice_index_or (slice_set row p (Some date)) q None ≡ Some n → (slice_index_or row q None ≡ Some n) ⊎ ((q ≡ p) × (n ≡ date))
set_place [] p q n date e = inl e
set_place (o ∷ row) zero zero n date e = inr (refl, sym (same_Some date n e))
set_place (o ∷ row) zero (suc q) n date e = inl e
set_place (o ∷ row) (suc p) zero n date e = inl e
set_place (o ∷ row) (suc p) (suc q) n date e = elim (set_place row p q n date e) [
  | inl was ↦ inl was
  | inr now ↦ inr (ap suc now.0, now.1)
]

pub one_more : (rows : List (List (Option ℕ))) (v p date : ℕ) → HasOneMore rows (slice_set rows v (slice_set (row_at rows v) p (Some date))) v p date
one_more [] v p date w q n e = inl e
one_more (r ∷ rows) zero p date zero q n e = elim (set_place r p q n date e) [
  | inl was ↦ inl was
  | inr now ↦ inr (refl, now.0, now.1)
]
one_more (r ∷ rows) zero p date (suc w) q n e = inl e
one_more (r ∷ rows) (suc v) p date zero q n e = inl e
one_more (r ∷ rows) (suc v) p date (suc w) q n e = elim (one_more rows v p date w q n e) [
  | inl was ↦ inl was
  | inr now ↦ inr (ap suc now.0, now.1, now.2)
]
