-- A valid schedule has few transfers, since each makes a copy that no other act makes.
use Rattle.std.proofs.Common.{◌≡◌, ◌≢◌, ℕ, zero, suc, ◌<◌, ◌≤◌, List, [], ◌∷◌, length, replicate, Some, refl, sym, ap, arith, ◌∙◌}
use Rattle.std.specs.Prelude.{slice_get, slice_index_or, slice_set}
use Rattle.std.proofs.lemmas.List.{length-set, get_or-set_other, get_or-replicate, length-replicate}

-- how many marks are free
abbrev free_marks : List ℕ → ℕ
free_marks [] = 0
free_marks (zero ∷ ms) = suc (free_marks ms)
free_marks (suc m ∷ ms) = free_marks ms

few_marks : (n : ℕ) → free_marks (replicate n 0) ≡ n
few_marks zero = refl
few_marks (suc n) = ap (λ (k : ℕ). suc k) (few_marks n)

one_less : (ms : List ℕ) (k : ℕ) → k < length ms → slice_index_or ms k 0 ≡ 0 → suc (free_marks (slice_set ms k 1)) ≡ free_marks ms
one_less [] k l e = absurd (omega arith)
one_less (zero ∷ ms) zero l e = refl
one_less (suc m ∷ ms) zero l e = absurd (omega arith)
one_less (zero ∷ ms) (suc k) l e = ap (λ (n : ℕ). suc n) (one_less ms k (omega arith) e)
one_less (suc m ∷ ms) (suc k) l e = one_less ms k (omega arith) e

-- Numbers that are free and differ are no more than the free marks.
marked : (ks ms : List ℕ) → ((i k : ℕ) → slice_get ks i ≡ Some k → (k < length ms) × (slice_index_or ms k 0 ≡ 0))
    → ((i j k : ℕ) → slice_get ks i ≡ Some k → slice_get ks j ≡ Some k → i ≡ j) → length ks ≤ free_marks ms
marked [] ms there apart = omega arith
marked (k ∷ ks) ms there apart =
    let here = there 0 k refl in
    let less = one_less ms k here.0 here.1 in
    let rest = marked ks (slice_set ms k 1) after (λ i j n p q. (let z = apart (suc i) (suc j) n p q in omega arith)) in
    omega arith
  where
    after : (i n : ℕ) → slice_get ks i ≡ Some n → (n < length (slice_set ms k 1)) × (slice_index_or (slice_set ms k 1) n 0 ≡ 0)
    after i n e =
        let r = there (suc i) n e in
        let l = length-set ms k 1 in
        let other : n ≢ k = λ q. (let z = apart 0 (suc i) n (ap (λ (m : ℕ). Some m) (sym q)) e in absurd (omega arith)) in
        ((let w = r.0 in omega arith), get_or-set_other ms k n 1 0 other ∙ r.1)

-- Different numbers below a bound are no more than the bound.
pub pigeons : (ks : List ℕ) (bound : ℕ) → ((i k : ℕ) → slice_get ks i ≡ Some k → k < bound) → ((i j k : ℕ) → slice_get ks i ≡ Some k → slice_get ks j ≡ Some k → i ≡ j) → length ks ≤ bound
pigeons ks bound low apart =
    let l : length (replicate {A = ℕ} bound 0) ≡ bound = length-replicate bound 0 in
    let m = marked ks (replicate bound 0) (λ i k e. ((let z = low i k e in omega arith), get_or-replicate bound k 0 0 (low i k e))) apart in
    let f = few_marks bound in
    omega arith
