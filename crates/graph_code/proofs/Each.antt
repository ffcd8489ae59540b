-- What holds of each element of a list, numbered from a number on.
use Rattle.std.proofs.Common.{◌≡◌, ℕ, zero, suc, ◌+◌, ◌<◌, List, [], ◌∷◌, ◌++◌, length, get_or, subst, arith}
use Rattle.graph_code.specs.Compiled.{EachFrom}

pub each_map : {A : Type 0} (P Q : ℕ → A → Type 0) → ((n : ℕ) (x : A) → P n x → Q n x) → (n : ℕ) (xs : List A) → EachFrom P n xs → EachFrom Q n xs
each_map P Q f n [] h = tt
each_map P Q f n (x ∷ xs) h = (f n x h.0, each_map P Q f (suc n) xs h.1)

pub each_more : {A : Type 0} (P : ℕ → A → Type 0) (n : ℕ) (xs : List A) (x : A) → EachFrom P n xs → P (n + length xs) x → EachFrom P n (xs ++ x ∷ [])
each_more P n [] x h p = (subst (λ k. P k x) (let e : n + 0 ≡ n = omega arith in e) p, tt)
each_more P n (y ∷ xs) x h p = (h.0, each_more P (suc n) xs x h.1 (subst (λ k. P k x) (let e : n + suc (length xs) ≡ suc n + length xs = omega arith in e) p))

pub each_at : {A : Type 0} (P : ℕ → A → Type 0) (n : ℕ) (xs : List A) (i : ℕ) (d : A) → i < length xs → EachFrom P n xs → P (n + i) (get_or xs i d)
each_at P n [] i d h e = absurd (omega arith)
each_at P n (x ∷ xs) zero d h e = subst (λ k. P k x) (let e : n ≡ n + 0 = omega arith in e) e.0
each_at P n (x ∷ xs) (suc i) d h e = subst (λ k. P k (get_or xs i d)) (let e : suc n + i ≡ n + suc i = omega arith in e) (each_at P (suc n) xs i d (omega arith) e.1)
