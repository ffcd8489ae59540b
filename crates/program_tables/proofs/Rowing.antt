-- One place more in a table of rows.
use Rattle.std.proofs.Common.{◌≡◌, ℕ, zero, suc, ◌+◌, ◌<◌, ◌≤◌, cond, nat_eq, List, [], ◌∷◌, ◌++◌, length, map, get_or, take, replicate, refl, sym, ap, arith, inl, inr, ◌∙◌, append-nil}
use Rattle.std.specs.Prelude.{slice_set}
use Rattle.std.specs.List.{filter}
use Rattle.std.proofs.lemmas.List.Elements.{filter_more}
use Rattle.std.proofs.lemmas.Bool.{cases_eq, eq-eqb, ne_eqb}
use Rattle.std.proofs.Math.ListN.{length-set}
use Rattle.program_tables.specs.declared.mark_table.Mark.{Mark}
use Rattle.program_tables.specs.MarkRows.{added, row}

module _ {V : Type 0} (f : V → List Mark) where
  row_at : (rows : List V) (n : ℕ) (old : V) → n < length rows → old ≡ get_or rows n old → row (map f rows) n ≡ f old
  row_at [] n old l e = absurd (omega arith)
  row_at (v ∷ vs) zero old l e = ap f (sym e)
  row_at (v ∷ vs) (suc n) old l e = row_at vs n old (omega arith) e

  map_set : (rows : List V) (n : ℕ) (new : V) → map f (slice_set rows n new) ≡ slice_set (map f rows) n (f new)
  map_set [] n new = refl
  map_set (v ∷ vs) zero new = refl
  map_set (v ∷ vs) (suc n) new = ap (λ ws. f v ∷ ws) (map_set vs n new)

  pub put : (rows : List V) (m : Mark) (old new : V) → m.number < length rows → old ≡ get_or rows m.number old → f new ≡ f old ++ m ∷ [] → map f (slice_set rows m.number new) ≡ added (map f rows) m
  put rows m old new l e h = map_set rows m.number new ∙ ap (λ ws. slice_set (map f rows) m.number ws) (h ∙ ap (λ ws. ws ++ m ∷ []) (sym (row_at rows m.number old l e)))

-- without a row of its number nothing is added
pub put_none : (rows : List (List Mark)) (m : Mark) → length rows ≤ m.number → rows ≡ added rows m
put_none rows m l = past rows m.number (row rows m.number ++ m ∷ []) l
  where
    past : (rows : List (List Mark)) (n : ℕ) (ms : List Mark) → length rows ≤ n → rows ≡ slice_set rows n ms
    past [] n ms l = refl
    past (r ∷ rs) zero ms l = absurd (omega arith)
    past (r ∷ rs) (suc n) ms l = ap (λ ws. r ∷ ws) (past rs n ms (omega arith))

row_set : (rows : List (List Mark)) (n : ℕ) (ms : List Mark) → n < length rows → row (slice_set rows n ms) n ≡ ms
row_set [] n ms l = absurd (omega arith)
row_set (r ∷ rs) zero ms l = refl
row_set (r ∷ rs) (suc n) ms l = row_set rs n ms (omega arith)

row_other : (rows : List (List Mark)) (n k : ℕ) (ms : List Mark) → (n ≡ k → ⊥) → row (slice_set rows n ms) k ≡ row rows k
row_other [] n k ms h = refl
row_other (r ∷ rs) zero zero ms h = absurd (h refl)
row_other (r ∷ rs) zero (suc k) ms h = refl
row_other (r ∷ rs) (suc n) zero ms h = refl
row_other (r ∷ rs) (suc n) (suc k) ms h = row_other rs n k ms (λ e. h (ap (λ (i : ℕ). suc i) e))

pub many_added : (rows : List (List Mark)) (m : Mark) → length (added rows m) ≡ length rows
many_added rows m = length-set rows m.number (row rows m.number ++ m ∷ [])

-- one place more, grouped
pub grouped : (rows : List (List Mark)) (marks : List Mark) (i count : ℕ) (d : Mark) → i < length marks → length rows ≡ count
    → ((n : ℕ) → n < count → row rows n ≡ filter (λ (x : Mark). nat_eq x.number n) (take i marks))
    → (n : ℕ) → n < count → row (added rows (get_or marks i d)) n ≡ filter (λ (x : Mark). nat_eq x.number n) (take (i + 1) marks)
grouped rows marks i count d low many h n l = step (get_or marks i d) ∙ sym (filter_more (λ (x : Mark). nat_eq x.number n) marks i d low)
  where
    step : (m : Mark) → row (added rows m) n ≡ filter (λ (x : Mark). nat_eq x.number n) (take i marks) ++ cond (nat_eq m.number n) (m ∷ []) []
    step m = elim (cases_eq m.number n) [
      | inl q ↦ (let b = eq-eqb m.number n q in
          ap (λ k. row (added rows m) k) (sym q) ∙ row_set rows m.number (row rows m.number ++ m ∷ []) (omega arith)
          ∙ ap (λ ws. ws ++ m ∷ []) (ap (row rows) q ∙ h n l)
          ∙ ap (λ b. filter (λ (x : Mark). nat_eq x.number n) (take i marks) ++ cond b (m ∷ []) []) (sym b))
      | inr q ↦ (let b = ne_eqb m.number n q in
          row_other rows m.number n (row rows m.number ++ m ∷ []) q ∙ h n l
          ∙ sym (append-nil (filter (λ (x : Mark). nat_eq x.number n) (take i marks)))
          ∙ ap (λ b. filter (λ (x : Mark). nat_eq x.number n) (take i marks) ++ cond b (m ∷ []) []) (sym b))
    ]

pub none_grouped : (count n : ℕ) → row (replicate count []) n ≡ []
none_grouped zero n = refl
none_grouped (suc count) zero = refl
none_grouped (suc count) (suc n) = none_grouped count n
