-- Rows that are written into a store one after another.
use Rattle.std.proofs.Common.{◌≡◌, ℕ, ◌+◌, ◌-◌, ◌<◌, ◌≤◌, ℤ, pos, List, [], ◌∷◌, ◌++◌, inl, inr, length, get_or, refl, sym, ap, subst, ◌∙◌, arith, length-append, append-nil}
use Rattle.std.proofs.lemmas.Bool.{cases_lt}
use Rattle.std.proofs.lemmas.List.{get_or_append_left, get_or-append-add}
use Rattle.syn_base.specs.Vectors.{Vector}
use Rattle.expression_code.specs.Code.{word}
use Rattle.graph_code.specs.Fired.{IsPut}

pub put_none : (width start : ℕ) (old : List ℤ) → IsPut width start [] old old
put_none width start old = record {
  len = refl;
  here = λ j h. absurd (omega arith);
  before = λ k h. refl;
  after = λ k h l. refl;
}

pub put_same : (width start : ℕ) (row other : Vector) (old new : List ℤ) → row ≡ other → IsPut width start row old new → IsPut width start other old new
put_same width start row other old new same p = subst (λ r. IsPut width start r old new) same p

pub put_less : (more width start : ℕ) (row : Vector) (old new : List ℤ) → width ≤ more → IsPut more start row old new → IsPut width start row old new
put_less more width start row old new le p = record {
  len = p.len;
  here = p.here;
  before = p.before;
  after = λ k h l. p.after k h (omega arith);
}

-- a row right after another
pub put_more : (width start next : ℕ) (row other : Vector) (old mid new : List ℤ) → next ≡ start + length row → next + length other ≤ width
    → IsPut width start row old mid → IsPut width next other mid new → IsPut width start (row ++ other) old new
put_more width start next row other old mid new is room p q =
    let long : length (row ++ other) ≡ length row + length other = length-append row other in
    record {
      len = q.len ∙ p.len;
      here = λ j h. elim (cases_lt j (length row)) [
        | inl l ↦ q.before (start + j) (omega (arith, is)) ∙ p.here j l ∙ sym (get_or_append_left row other (pos 0) j l)
        | inr l ↦
            let i = j - length row in
            let place : start + j ≡ next + i = omega (arith, is) in
            let number : length row + i ≡ j = omega arith in
            ap (word new) place ∙ q.here i (omega (arith, long)) ∙ sym (get_or-append-add row other i (pos 0)) ∙ ap (word (row ++ other)) number
      ];
      before = λ k h. q.before k (omega (arith, is)) ∙ p.before k h;
      after = λ k h l. q.after k (omega (arith, is, long)) l ∙ p.after k (omega (arith, long)) l;
    }

-- one row, as the only one of those that are joined
pub put_only : (width start : ℕ) (row : Vector) (old new : List ℤ) → IsPut width start row old new → IsPut width start (row ++ []) old new
put_only width start row old new p = put_same width start row (row ++ []) old new (sym (append-nil row)) p
