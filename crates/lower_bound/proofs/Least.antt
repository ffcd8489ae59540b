-- The least durations of a table.
use Rattle.std.proofs.Common.{◌≡◌, ℕ, zero, suc, ◌+◌, ◌<◌, ◌≤◌, List, [], ◌∷◌, map, length, min, Option, Some, None, refl, sym, ap, subst, true, arith, ◌∙◌, inl, inr}
use Rattle.std.specs.Prelude.{All, IfSome, is_some, slice_index_or, unwrap_or, nat_lt}
use Rattle.std.specs.List.{list_any, range_with_len}
use Rattle.std.proofs.lemmas.Bool.{false≢true, cases_lt}
use Rattle.std.proofs.lemmas.List.{get_or_past}
use Rattle.self_timed.specs.Table.{Table, IsRow, entry_in, least_of, row_in}
use Rattle.self_timed.proofs.Least.{least_bounded}
use Rattle.lower_bound.specs.Bound.{least}
use Rattle.syn_base.specs.Numbers.{lesser}

least_entry : (f : ℕ → Option ℕ) (a m : ℕ) (xs : List (Option ℕ)) → length xs ≤ m → ((i : ℕ) → f (a + i) ≡ slice_index_or xs i None) → least_of (map f (range_with_len a m)) ≡ least_of xs
least_entry f a zero [] l h = refl
least_entry f a zero (x ∷ xs) l h = absurd (omega arith)
least_entry f a (suc m) [] l h =
    let z : a ≡ a + 0 = omega arith in
    (λ i. lesser ((ap f z ∙ h 0) i) (least_of (map f (range_with_len (a + 1) m)))) ∙ least_entry f (a + 1) m [] (omega arith) (λ i. (let e : a + 1 + i ≡ a + suc i = omega arith in ap f e ∙ h (suc i)))
least_entry f a (suc m) (x ∷ xs) l h =
    let z : a ≡ a + 0 = omega arith in
    λ i. lesser ((ap f z ∙ h 0) i) (least_entry f (a + 1) m xs (omega arith) (λ i. (let e : a + 1 + i ≡ a + suc i = omega arith in ap f e ∙ h (suc i))) i)

module _ (table : Table) (valid : All (IsRow table.operators) table.rows) where
  least_of_row : (v : ℕ) → length (row_in table v) ≤ table.operators → least table.operators (entry_in table) v ≡ unwrap_or (least_of (row_in table v)) 0
  least_of_row v l = ap (λ (e : Option ℕ). unwrap_or e 0) (least_entry (entry_in table v) 0 table.operators (row_in table v) l (λ i. (let z : 0 + i ≡ i = omega arith in ap (entry_in table v) z)))

  pub least_is : (v t : ℕ) → v < length table.rows → least_of (row_in table v) ≡ Some t → t ≡ least table.operators (entry_in table) v
  least_is v t l e =
      let r = (valid v [] l).each in
      sym (least_of_row v (omega arith) ∙ ap (λ (x : Option ℕ). unwrap_or x 0) e)

  -- no operation lasts longer than the most ticks
  pub least_low : (v : ℕ) → least table.operators (entry_in table) v ≤ 1000000000
  least_low v = elim (cases_lt v (length table.rows)) [
    | inl l ↦ (let r = (valid v [] l).each in
        let e = least_of_row v (omega arith) in
        let b = by (least_of (row_in table v)) refl (valid v [] l) in
        omega arith)
    | inr far ↦
        (let e = ap (λ (xs : List (Option ℕ)). unwrap_or (least_of xs) 0) (get_or_past table.rows v [] far) in
        let n = ap length (get_or_past table.rows v [] far) in
        let m = least_of_row v (omega arith) in
        omega arith)
  ]
    where
      by : (o : Option ℕ) → least_of (row_in table v) ≡ o → IsRow table.operators (row_in table v) → unwrap_or o 0 ≤ 1000000000
      by None e row = omega arith
      by (Some t) e row = least_bounded table.operators (row_in table v) t row e

  -- no entry is above the most ticks
  pub entry_low : (v o : ℕ) → IfSome (entry_in table v o) (λ t. t ≤ 1000000000)
  entry_low v o = elim (cases_lt v (length table.rows)) [
    | inl l ↦ (elim (cases_lt o (length (row_in table v))) [
      | inl m ↦ (valid v [] l).bounded o None m
      | inr far ↦ past (entry_in table v o) (get_or_past (row_in table v) o None far)
    ])
    | inr far ↦ past (entry_in table v o) (ap (λ (xs : List (Option ℕ)). slice_index_or xs o None) (get_or_past table.rows v [] far))
  ]
    where
      past : (e : Option ℕ) → e ≡ None → IfSome e (λ t. t ≤ 1000000000)
      past e is = subst (λ (x : Option ℕ). IfSome x (λ t. t ≤ 1000000000)) (sym is) tt

  -- an operation of the table may stand somewhere
  pub some_entry : (v : ℕ) → v < length table.rows → (t : ℕ) × (least_of (map (entry_in table v) (range_with_len 0 table.operators)) ≡ Some t)
  some_entry v l =
      let r = (valid v [] l).each in
      let z = least_some (row_in table v) (valid v [] l).some in
      (z.0, least_entry (entry_in table v) 0 table.operators (row_in table v) (omega arith) (λ i. (let e : 0 + i ≡ i = omega arith in ap (entry_in table v) e)) ∙ z.1)
    where
      least_some : (xs : List (Option ℕ)) → list_any (λ (x : Option ℕ). is_some x) xs ≡ true → (t : ℕ) × (least_of xs ≡ Some t)
      least_some [] h = absurd (false≢true h)
      least_some (None ∷ xs) h = least_some xs h
      least_some (Some t ∷ xs) h = by (least_of xs)
        where
          by : (o : Option ℕ) → (u : ℕ) × (lesser (Some t) o ≡ Some u)
          by None = (t, refl)
          by (Some u) = (min t u, refl)
