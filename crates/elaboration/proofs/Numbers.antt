-- The marks on references by their places.
use Rattle.std.proofs.Common.{◌≡◌, ℕ, suc, ◌+◌, ◌<◌, ◌≤◌, cond, List, [], ◌∷◌, ◌++◌, length, Option, Some, None, refl, ap, ◌∙◌, eq-eqb, ne_eqb, arith}
use Rattle.multi_period.specs.declared.mark.Mark.{Mark}
use Rattle.multi_period.specs.Marks.{mark_at, IsOnce, AreOnce}
use Rattle.algo_laws.specs.declared.Reference.{Reference}
use Rattle.elaboration.specs.Marking.{mark_of, marks_from}

-- the mark of a reference at place k
abbrev pub to_mark : ℕ → Option ℕ → Option Mark
to_mark k None = None
to_mark k (Some n) = Some (record { reference = k; every = n })

past_one : (k j : ℕ) (o : Option ℕ) (ms : List Mark) → (k ≡ j → ⊥) → mark_at (mark_of k o ++ ms) j ≡ mark_at ms j
past_one k j None ms ne = refl
past_one k j (Some n) ms ne = ap (λ b. cond b (Some (record { reference = k; every = n })) (mark_at ms j)) (ne_eqb k j ne)

none_before : (j k : ℕ) (rs : List Reference) → j < k → mark_at (marks_from k rs) j ≡ None
none_before j k [] lt = refl
none_before j k (r ∷ rs) lt = past_one k j r.every (marks_from (suc k) rs) (λ e. omega (arith, e, lt)) ∙ none_before j (suc k) rs (omega arith)

at_one : (k : ℕ) (o : Option ℕ) (ms : List Mark) → mark_at ms k ≡ None → mark_at (mark_of k o ++ ms) k ≡ to_mark k o
at_one k None ms none = none
at_one k (Some n) ms none = ap (λ b. cond b (Some (record { reference = k; every = n })) (mark_at ms k)) (eq-eqb k k refl)

pub mark_first : (k : ℕ) (r : Reference) (rs : List Reference) → mark_at (marks_from k (r ∷ rs)) (k + 0) ≡ to_mark k r.every
mark_first k r rs = ap (mark_at (marks_from k (r ∷ rs))) plain ∙ at_one k r.every (marks_from (suc k) rs) (none_before k (suc k) rs (omega arith))
  where
    plain : k + 0 ≡ k
    plain = omega arith

pub mark_later : (k i : ℕ) (r : Reference) (rs : List Reference) → mark_at (marks_from k (r ∷ rs)) (k + suc i) ≡ mark_at (marks_from (suc k) rs) (suc k + i)
mark_later k i r rs = past_one k (k + suc i) r.every (marks_from (suc k) rs) (λ e. omega (arith, e)) ∙ ap (mark_at (marks_from (suc k) rs)) on
  where
    on : k + suc i ≡ suc k + i
    on = omega arith

-- each reference has one mark at most
new_one : (k j : ℕ) (o : Option ℕ) (ms : List Mark) → (j ≡ k → ⊥) → IsOnce k ms → IsOnce k (mark_of j o ++ ms)
new_one k j None ms ne h = h
new_one k j (Some n) ms ne h = (ne_eqb j k ne, h)

new_before : (k j : ℕ) (rs : List Reference) → k < j → IsOnce k (marks_from j rs)
new_before k j [] lt = tt
new_before k j (r ∷ rs) lt = new_one k j r.every (marks_from (suc j) rs) (λ e. omega (arith, e, lt)) (new_before k (suc j) rs (omega arith))

once_one : (n k : ℕ) (o : Option ℕ) (ms : List Mark) → k < n → IsOnce k ms → AreOnce n ms → AreOnce n (mark_of k o ++ ms)
once_one n k None ms lt new h = h
once_one n k (Some m) ms lt new h = ((lt, new), h)

pub once_from : (n k : ℕ) (rs : List Reference) → k + length rs ≤ n → AreOnce n (marks_from k rs)
once_from n k [] le = tt
once_from n k (r ∷ rs) le = once_one n k r.every (marks_from (suc k) rs) (omega arith) (new_before k (suc k) rs (omega arith)) (once_from n (suc k) rs (omega arith))
