-- Tight schedules act by act.
use Rattle.std.proofs.Common.{◌≡◌, ℕ, zero, suc, Bool, true, false, ◌&&◌, ◌==◌, List, [], ◌∷◌, ◌++◌, take, Some, refl, sym, ap, ◌∙◌, eq-eqb}
use Rattle.std.specs.Prelude.{slice_get}
use Rattle.std.specs.Cmp.Derive.{both_true}
use Rattle.std.proofs.lemmas.Bool.{and_parts, eqb-true}
use Rattle.std.proofs.lemmas.List.{append-nil, append_assoc}
use Rattle.std.proofs.lemmas.Option.{same_Some}
use Rattle.durations.specs.declared.Vertex.{Vertex}
use Rattle.schedule.specs.Acts.{Act, acts, start_of}
use Rattle.schedule.specs.Tight.{earliest, are_tight, TightActByAct}

module _ (vertices : List Vertex) where
  -- they are tight where the first ones are, and the others after them
  pub tight-append : (before xs ys : List Act) → are_tight vertices before (xs ++ ys) ≡ (are_tight vertices before xs && are_tight vertices (before ++ xs) ys)
  tight-append before [] ys = ap (λ (l : List Act). are_tight vertices l ys) (sym (append-nil before))
  tight-append before (x ∷ xs) ys = by (start_of x == earliest vertices before x)
      (tight-append (before ++ x ∷ []) xs ys ∙ ap (λ (l : List Act). are_tight vertices (before ++ x ∷ []) xs && are_tight vertices l ys) (append_assoc before (x ∷ []) xs))
    where
      by : (b : Bool) → are_tight vertices (before ++ x ∷ []) (xs ++ ys) ≡ (are_tight vertices (before ++ x ∷ []) xs && are_tight vertices (before ++ x ∷ xs) ys)
          → (b && are_tight vertices (before ++ x ∷ []) (xs ++ ys)) ≡ ((b && are_tight vertices (before ++ x ∷ []) xs) && are_tight vertices (before ++ x ∷ xs) ys)
      by true e = e
      by false e = refl

  pub tight_at : (before xs : List Act) → are_tight vertices before xs ≡ true → (i : ℕ) (x : Act) → slice_get xs i ≡ Some x → start_of x ≡ earliest vertices (before ++ take i xs) x
  tight_at before [] h i x e = absurd cc
  tight_at before (y ∷ ys) h zero x e =
      let both = and_parts (start_of y == earliest vertices before y) (are_tight vertices (before ++ y ∷ []) ys) h in
      let same = same_Some y x e in
      ap start_of (sym same) ∙ eqb-true (start_of y) (earliest vertices before y) both.0 ∙ ap (earliest vertices before) same ∙ ap (λ (l : List Act). earliest vertices l x) (sym (append-nil before))
  tight_at before (y ∷ ys) h (suc i) x e =
      let both = and_parts (start_of y == earliest vertices before y) (are_tight vertices (before ++ y ∷ []) ys) h in
      tight_at (before ++ y ∷ []) ys both.1 i x e ∙ ap (λ (l : List Act). earliest vertices l x) (append_assoc before (y ∷ []) (take i ys))

  pub tight_where : (before xs : List Act) → ((i : ℕ) (x : Act) → slice_get xs i ≡ Some x → start_of x ≡ earliest vertices (before ++ take i xs) x) → are_tight vertices before xs ≡ true
  tight_where before [] h = refl
  tight_where before (y ∷ ys) h =
      let first = h 0 y refl ∙ ap (λ (l : List Act). earliest vertices l y) (append-nil before) in
      both_true (eq-eqb (start_of y) (earliest vertices before y) first)
      (tight_where (before ++ y ∷ []) ys (λ i x e. h (suc i) x e ∙ ap (λ (l : List Act). earliest vertices l x) (sym (append_assoc before (y ∷ []) (take i ys)))))

pub tight_act_by_act : TightActByAct
tight_act_by_act g s = (tight_at g.vertices [] (acts s), tight_where g.vertices [] (acts s))
