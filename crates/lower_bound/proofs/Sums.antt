-- Sums, counts and greatest numbers over the numbers from 0 on, one number more.
use Rattle.std.proofs.Common.{◌≡◌, ℕ, zero, suc, ◌+◌, Bool, true, false, cond, List, [], ◌∷◌, ◌++◌, map, max, refl, ap, arith, ◌∙◌}
use Rattle.std.specs.Prelude.{count_by, filter, sum_by}
use Rattle.std.specs.List.{range_with_len}
use Rattle.std.proofs.lemmas.List.Sums.{sum_by_push}
use Rattle.syn_base.specs.Numbers.{greatest}

range_last : (a n : ℕ) → range_with_len a (n + 1) ≡ range_with_len a n ++ (a + n) ∷ []
range_last a zero = (let e : a ≡ a + 0 = omega arith in λ i. e i ∷ [])
range_last a (suc n) =
    let s : suc n + 1 ≡ suc (n + 1) = omega arith in
    let e : a + 1 + n ≡ a + suc n = omega arith in
    ap (range_with_len a) s ∙ ap (λ (l : List ℕ). a ∷ l) (range_last (a + 1) n ∙ ap (λ (k : ℕ). range_with_len (a + 1) n ++ k ∷ []) e)

pub one_more : (n : ℕ) → range_with_len 0 (n + 1) ≡ range_with_len 0 n ++ n ∷ []
one_more n = range_last 0 n ∙ ap (λ (k : ℕ). range_with_len 0 n ++ k ∷ []) (let e : 0 + n ≡ n = omega arith in e)

pub sum_more : (f : ℕ → ℕ) (n : ℕ) → sum_by f (range_with_len 0 (n + 1)) ≡ sum_by f (range_with_len 0 n) + f n
sum_more f n = ap (sum_by f) (one_more n) ∙ sum_by_push f (range_with_len 0 n) n

count_more : (p : ℕ → Bool) (n : ℕ) → count_by p (range_with_len 0 (n + 1)) ≡ count_by p (range_with_len 0 n) + cond (p n) 1 0
count_more p n = sum_more (λ v. cond (p v) 1 0) n

pub count_yes : (p : ℕ → Bool) (n : ℕ) → p n ≡ true → count_by p (range_with_len 0 (n + 1)) ≡ count_by p (range_with_len 0 n) + 1
count_yes p n h = count_more p n ∙ ap (λ (b : Bool). count_by p (range_with_len 0 n) + cond b 1 0) h

pub count_no : (p : ℕ → Bool) (n : ℕ) → p n ≡ false → count_by p (range_with_len 0 (n + 1)) ≡ count_by p (range_with_len 0 n)
count_no p n h = count_more p n ∙ ap (λ (b : Bool). count_by p (range_with_len 0 n) + cond b 1 0) h ∙ (let e : count_by p (range_with_len 0 n) + 0 ≡ count_by p (range_with_len 0 n) = omega arith in e)

filter_last : (p : ℕ → Bool) (xs : List ℕ) (y : ℕ) → filter p (xs ++ y ∷ []) ≡ filter p xs ++ cond (p y) (y ∷ []) []
filter_last p [] y = refl
filter_last p (x ∷ xs) y = by (p x) (filter_last p xs y)
  where
    by : (b : Bool) → filter p (xs ++ y ∷ []) ≡ filter p xs ++ cond (p y) (y ∷ []) []
        → cond b (x ∷ filter p (xs ++ y ∷ [])) (filter p (xs ++ y ∷ [])) ≡ cond b (x ∷ filter p xs) (filter p xs) ++ cond (p y) (y ∷ []) []
    by true e = ap (λ (l : List ℕ). x ∷ l) e
    by false e = e

pub filtered_more : (f : ℕ → ℕ) (p : ℕ → Bool) (n : ℕ) → sum_by f (filter p (range_with_len 0 (n + 1))) ≡ sum_by f (filter p (range_with_len 0 n)) + cond (p n) (f n) 0
filtered_more f p n = ap (λ (l : List ℕ). sum_by f (filter p l)) (one_more n) ∙ ap (sum_by f) (filter_last p (range_with_len 0 n) n) ∙ by (p n)
  where
    by : (b : Bool) → sum_by f (filter p (range_with_len 0 n) ++ cond b (n ∷ []) []) ≡ sum_by f (filter p (range_with_len 0 n)) + cond b (f n) 0
    by true = sum_by_push f (filter p (range_with_len 0 n)) n
    by false = ap (sum_by f) (nil (filter p (range_with_len 0 n))) ∙ (let e : sum_by f (filter p (range_with_len 0 n)) ≡ sum_by f (filter p (range_with_len 0 n)) + 0 = omega arith in e)
      where
        nil : (xs : List ℕ) → xs ++ [] ≡ xs
        nil [] = refl
        nil (x ∷ xs) = ap (λ (l : List ℕ). x ∷ l) (nil xs)

greatest_last : (f : ℕ → ℕ) (xs : List ℕ) (y : ℕ) → greatest (map f (xs ++ y ∷ [])) ≡ max (greatest (map f xs)) (f y)
greatest_last f [] y = omega arith
greatest_last f (x ∷ xs) y = let e = greatest_last f xs y in omega arith

pub greatest_more : (f : ℕ → ℕ) (n : ℕ) → greatest (map f (range_with_len 0 (n + 1))) ≡ max (greatest (map f (range_with_len 0 n))) (f n)
greatest_more f n = ap (λ (l : List ℕ). greatest (map f l)) (one_more n) ∙ greatest_last f (range_with_len 0 n) n
