-- The time of lines, one decision or one transfer more; lists of numbers, one more.
use Rattle.std.proofs.Common.{◌≡◌, ℕ, zero, suc, ◌+◌, ◌<◌, ◌≤◌, Bool, true, false, cond, ◌&&◌, nat_eq, List, [], ◌∷◌, ◌++◌, map, length, drop, get_or, refl, sym, ap, arith, ◌∙◌, drop-cons}
use Rattle.std.specs.Prelude.{filter, is_some, sum_by, Option, None}
use Rattle.std.specs.List.{list_all, range_with_len}
use Rattle.std.proofs.lemmas.Bool.{false_from_ne_true, false≢true}
use Rattle.std.proofs.lemmas.List.Sums.{sum_by_push}
use Rattle.lower_bound.proofs.Below.{all_in_range}
use Rattle.lower_bound.specs.Numbers.{busy, may_all_stand}
use Rattle.lower_bound.proofs.Busy.{busy-cons}
use Rattle.self_timed.specs.declared.Transfer.{Transfer}
use Rattle.self_timed.specs.declared.Decision.{Decision}
use Rattle.self_timed.specs.Acts.{Act, carry, run, acts_of, is_on, is_over}
use Rattle.self_timed.specs.Entries.{stated}

busy-append : (test : Act → Bool) (xs ys : List Act) → busy test (xs ++ ys) ≡ busy test xs + busy test ys
busy-append test [] ys = omega arith
busy-append test (x ∷ xs) ys =
    let e = busy-append test xs ys in
    let f = busy-cons test x (xs ++ ys) in
    let h = busy-cons test x xs in
    omega arith

no_runs : (o : ℕ) (ts : List Transfer) → busy (is_on o) (map carry ts) ≡ 0
no_runs o [] = refl
no_runs o (t ∷ ts) = no_runs o ts

pub first_of : {A : Type 0} (xs : List A) (i : ℕ) (x : A) → i < length xs → x ≡ get_or xs i x → drop i xs ≡ x ∷ drop (i + 1) xs
first_of xs i x l is =
    let one : suc i ≡ i + 1 = omega arith in
    drop-cons xs i x l ∙ (λ j. sym is j ∷ drop (one j) xs)

-- of the decisions that are left, the first
pub on_step : (o : ℕ) (ds : List Decision) (i : ℕ) (d : Decision) → i < length ds → d ≡ get_or ds i d
    → busy (is_on o) (acts_of (drop i ds)) ≡ cond (nat_eq d.operator o) (stated (run d)) 0 + busy (is_on o) (acts_of (drop (i + 1) ds))
on_step o ds i d l is =
    let e = ap (λ (es : List Decision). busy (is_on o) (acts_of es)) (first_of ds i d l is) in
    let f = busy-append (is_on o) (map carry d.transfers) (run d ∷ acts_of (drop (i + 1) ds)) in
    let n = no_runs o d.transfers in
    let h = busy-cons (is_on o) (run d) (acts_of (drop (i + 1) ds)) in
    omega arith

pub over_step : (m : ℕ) (ds : List Decision) (i : ℕ) (d : Decision) → i < length ds → d ≡ get_or ds i d
    → busy (is_over m) (acts_of (drop i ds)) ≡ busy (is_over m) (map carry d.transfers) + busy (is_over m) (acts_of (drop (i + 1) ds))
over_step m ds i d l is =
    let e = ap (λ (es : List Decision). busy (is_over m) (acts_of es)) (first_of ds i d l is) in
    let f = busy-append (is_over m) (map carry d.transfers) (run d ∷ acts_of (drop (i + 1) ds)) in
    let h = busy-cons (is_over m) (run d) (acts_of (drop (i + 1) ds)) in
    omega arith

pub carried_step : (m : ℕ) (ts : List Transfer) (i : ℕ) (t : Transfer) → i < length ts → t ≡ get_or ts i t
    → busy (is_over m) (map carry (drop i ts)) ≡ cond (nat_eq t.medium m) (stated (carry t)) 0 + busy (is_over m) (map carry (drop (i + 1) ts))
carried_step m ts i t l is =
    let e = ap (λ (us : List Transfer). busy (is_over m) (map carry us)) (first_of ts i t l is) in
    let h = busy-cons (is_over m) (carry t) (map carry (drop (i + 1) ts)) in
    omega arith

range_last : (a n : ℕ) → range_with_len a (n + 1) ≡ range_with_len a n ++ (a + n) ∷ []
range_last a zero = (let e : a ≡ a + 0 = omega arith in λ i. e i ∷ [])
range_last a (suc n) =
    let s : suc n + 1 ≡ suc (n + 1) = omega arith in
    let e : a + 1 + n ≡ a + suc n = omega arith in
    ap (range_with_len a) s ∙ ap (λ (l : List ℕ). a ∷ l) (range_last (a + 1) n ∙ ap (λ (k : ℕ). range_with_len (a + 1) n ++ k ∷ []) e)

one_more : (n : ℕ) → range_with_len 0 (n + 1) ≡ range_with_len 0 n ++ n ∷ []
one_more n = range_last 0 n ∙ ap (λ (k : ℕ). range_with_len 0 n ++ k ∷ []) (let e : 0 + n ≡ n = omega arith in e)

module _ {A : Type 0} (f : ℕ → A) where
  map_last : (xs : List ℕ) (y : ℕ) → map f (xs ++ y ∷ []) ≡ map f xs ++ f y ∷ []
  map_last [] y = refl
  map_last (x ∷ xs) y = ap (λ (l : List A). f x ∷ l) (map_last xs y)

  -- one number more
  pub mapped_more : (n : ℕ) (x : A) → x ≡ f n → map f (range_with_len 0 n) ++ x ∷ [] ≡ map f (range_with_len 0 (n + 1))
  mapped_more n x e = ap (λ (y : A). map f (range_with_len 0 n) ++ y ∷ []) e ∙ sym (ap (λ (l : List ℕ). map f l) (one_more n) ∙ map_last (range_with_len 0 n) n)

pub sum_more : (f : ℕ → ℕ) (n : ℕ) → sum_by f (range_with_len 0 (n + 1)) ≡ sum_by f (range_with_len 0 n) + f n
sum_more f n = ap (sum_by f) (one_more n) ∙ sum_by_push f (range_with_len 0 n) n

all_last : (p : ℕ → Bool) (xs : List ℕ) (y : ℕ) → list_all p (xs ++ y ∷ []) ≡ (list_all p xs && p y)
all_last p [] y = by (p y)
  where
    by : (b : Bool) → (b && true) ≡ b
    by true = refl
    by false = refl
all_last p (x ∷ xs) y = by (p x) (all_last p xs y)
  where
    by : (b : Bool) → list_all p (xs ++ y ∷ []) ≡ (list_all p xs && p y) → (b && list_all p (xs ++ y ∷ [])) ≡ ((b && list_all p xs) && p y)
    by true e = e
    by false e = refl

pub all_more : (p : ℕ → Bool) (n : ℕ) → list_all p (range_with_len 0 (n + 1)) ≡ (list_all p (range_with_len 0 n) && p n)
all_more p n = ap (list_all p) (one_more n) ∙ all_last p (range_with_len 0 n) n

-- where an operation may not stand, not all may
pub none_stands : (ticks : ℕ → ℕ → Option ℕ) (n o v : ℕ) → v < n → ticks v o ≡ None → may_all_stand ticks n o ≡ false
none_stands ticks n o v l e =
    false_from_ne_true (may_all_stand ticks n o) (λ h. false≢true (sym (ap (λ (x : Option ℕ). is_some x) e) ∙ all_in_range (λ u. is_some (ticks u o)) 0 n v h (omega arith) (omega arith)))
