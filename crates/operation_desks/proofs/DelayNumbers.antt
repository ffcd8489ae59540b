-- The numbers of the delays, operation by operation.
use Rattle.std.proofs.Common.{◌≡◌, ℕ, zero, suc, ◌+◌, ◌<◌, ◌≤◌, min, ⊎_elim, Bool, true, false, cond, List, [], ◌∷◌, ◌++◌, length, get_or, refl, sym, ap, subst, arith, ◌∙◌, add-one}
use Rattle.std.specs.Prelude.{if◌then◌else◌}
use Rattle.std.proofs.lemmas.Bool.{cases_lt}
use Rattle.executive_program.specs.declared.Vertex.{Vertex}
use Rattle.executive_program.specs.Meaning.{is_get, delay_number}
use Rattle.operation_desks.specs.Desk.{is_get_at, AreDelayNumbers}

pub first : (xs : List Vertex) → delay_number xs 0 ≡ 0
first [] = refl
first (x ∷ xs) = refl

delay_suc : (xs : List Vertex) (k : ℕ) → delay_number xs (suc k) ≡ cond (is_get_at xs k) (delay_number xs k + 1) (delay_number xs k)
delay_suc [] k = refl
delay_suc (x ∷ xs) zero = by (is_get x.kind)
  where
    by : (b : Bool) → (if b then delay_number xs 0 + 1 else delay_number xs 0) ≡ cond b (0 + 1) 0
    by true = ap (λ (n : ℕ). n + 1) (first xs)
    by false = first xs
delay_suc (x ∷ xs) (suc k) = by (is_get x.kind) (is_get_at xs k) (delay_suc xs k)
  where
    by : (b g : Bool) → delay_number xs (suc k) ≡ cond g (delay_number xs k + 1) (delay_number xs k)
        → (if b then delay_number xs (suc k) + 1 else delay_number xs (suc k))
        ≡ cond g ((if b then delay_number xs k + 1 else delay_number xs k) + 1) (if b then delay_number xs k + 1 else delay_number xs k)
    by true true e = ap (λ (n : ℕ). n + 1) e
    by true false e = ap (λ (n : ℕ). n + 1) e
    by false true e = e
    by false false e = e

pub delay_more : (xs : List Vertex) (k : ℕ) → delay_number xs (k + 1) ≡ cond (is_get_at xs k) (delay_number xs k + 1) (delay_number xs k)
delay_more xs k = ap (delay_number xs) (add-one k) ∙ delay_suc xs k

-- past the last operation all get halves stand before
pub past : (xs : List Vertex) (v : ℕ) → length xs ≤ v → delay_number xs v ≡ delay_number xs (length xs)
past [] v l = refl
past (x ∷ xs) zero l = absurd (omega (arith, l))
past (x ∷ xs) (suc v) l = ap (λ (n : ℕ). if is_get x.kind then n + 1 else n) (past xs v (omega (arith, l)))

-- one more number at the end
more_at : (f : ℕ → ℕ) (old : List ℕ) (n : ℕ) → ((k : ℕ) → k < length old → get_or old k 0 ≡ f k) → n ≡ f (length old) → (k : ℕ) → k < length (old ++ n ∷ []) → get_or (old ++ n ∷ []) k 0 ≡ f k
more_at f [] n h e zero l = e
more_at f [] n h e (suc k) l = absurd (omega (arith, l))
more_at f (x ∷ xs) n h e zero l = h 0 (omega arith)
more_at f (x ∷ xs) n h e (suc k) l = more_at (λ i. f (suc i)) xs n (λ i q. h (suc i) (omega (arith, q))) e k (omega (arith, l))

pub numbers_more : (xs : List Vertex) (old new : List ℕ) (n k : ℕ) → ((i : ℕ) → i < length old → get_or old i 0 ≡ delay_number xs i) → new ≡ old ++ n ∷ [] → length old ≡ k → n ≡ delay_number xs k
    → (i : ℕ) → i < length new → get_or new i 0 ≡ delay_number xs i
numbers_more xs old new n k h e l q = subst (λ (z : List ℕ). (i : ℕ) → i < length z → get_or z i 0 ≡ delay_number xs i) (sym e) (more_at (delay_number xs) old n h (q ∙ ap (delay_number xs) (sym l)))

-- the number of an operation, also of one past the last
pub number_at : (xs : List Vertex) (numbers : List ℕ) → AreDelayNumbers xs numbers → (m v : ℕ) → m ≡ min v (length xs) → get_or numbers m 0 ≡ delay_number xs v
number_at xs numbers are m v e = are.each m (let n = are.many in omega (arith, n, e)) ∙ ⊎_elim
    (λ (l : v < length xs). ap (delay_number xs) (let q : m ≡ v = omega (arith, e, l) in q))
    (λ (l : length xs ≤ v). ap (delay_number xs) (let q : m ≡ length xs = omega (arith, e, l) in q) ∙ sym (past xs v l))
    (cases_lt v (length xs))
