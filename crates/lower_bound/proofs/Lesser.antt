-- The lesser of numbers that may be there, and the least of several.
use Rattle.std.proofs.Common.{◌≡◌, ℕ, suc, ◌+◌, ◌<◌, ◌≤◌, List, [], ◌∷◌, ◌++◌, drop, get_or, length, map, min, Option, Some, None, refl, sym, ap, arith, ◌∙◌}
use Rattle.std.specs.Prelude.{IfSome}
use Rattle.std.specs.List.{range_with_len}
use Rattle.std.proofs.Math.Seq.{drop-cons}
use Rattle.std.proofs.lemmas.List.{drop_all}
use Rattle.self_timed.specs.Table.{least_of}
use Rattle.lower_bound.proofs.Sums.{one_more}
use Rattle.syn_base.specs.Numbers.{lesser}

pub lesser_none : (x : Option ℕ) → lesser x None ≡ x
lesser_none None = refl
lesser_none (Some t) = refl

pub lesser_assoc : (x y z : Option ℕ) → lesser (lesser x y) z ≡ lesser x (lesser y z)
lesser_assoc None y z = refl
lesser_assoc (Some t) None z = refl
lesser_assoc (Some t) (Some u) None = refl
lesser_assoc (Some t) (Some u) (Some w) = ap (λ (n : ℕ). Some n) (let e : min (min t u) w ≡ min t (min u w) = omega arith in e)

least_last : {A : Type 0} (f : A → Option ℕ) (xs : List A) (y : A) → least_of (map f (xs ++ y ∷ [])) ≡ lesser (least_of (map f xs)) (f y)
least_last f [] y = lesser_none (f y)
least_last f (x ∷ xs) y = ap (lesser (f x)) (least_last f xs y) ∙ sym (lesser_assoc (f x) (least_of (map f xs)) (f y))

pub least_more : (f : ℕ → Option ℕ) (n : ℕ) → least_of (map f (range_with_len 0 (n + 1))) ≡ lesser (least_of (map f (range_with_len 0 n))) (f n)
least_more f n = ap (λ (xs : List ℕ). least_of (map f xs)) (one_more n) ∙ least_last f (range_with_len 0 n) n

-- neither is above a number
pub lesser_low : (most : ℕ) (x y : Option ℕ) → IfSome x (λ t. t ≤ most) → IfSome y (λ t. t ≤ most) → IfSome (lesser x y) (λ t. t ≤ most)
lesser_low most None y l m = m
lesser_low most (Some t) None l m = l
lesser_low most (Some t) (Some u) l m = omega arith

-- the least of a list, one element more
pub least_step : {A : Type 0} (f : A → Option ℕ) (xs : List A) (i : ℕ) (x : A) (so_far one next : Option ℕ) → i < length xs → x ≡ get_or xs i x → one ≡ f x → next ≡ lesser so_far one
    → lesser so_far (least_of (map f (drop i xs))) ≡ least_of (map f xs) → lesser next (least_of (map f (drop (i + 1) xs))) ≡ least_of (map f xs)
least_step {A} f xs i x so_far one next l is o n whole =
    let e : suc i ≡ i + 1 = omega arith in
    let left = least_of (map f (drop (i + 1) xs)) in
    let next_is = n ∙ ap (lesser so_far) (o ∙ ap f is) in
    let here = drop-cons xs i x l ∙ ap (λ (k : ℕ). get_or xs i x ∷ drop k xs) e in
    ap (λ (y : Option ℕ). lesser y left) next_is ∙ lesser_assoc so_far (f (get_or xs i x)) left ∙ ap (λ (ys : List A). lesser so_far (least_of (map f ys))) (sym here) ∙ whole

pub least_whole : {A : Type 0} (f : A → Option ℕ) (xs : List A) (i : ℕ) (so_far : Option ℕ) → length xs ≤ i
    → lesser so_far (least_of (map f (drop i xs))) ≡ least_of (map f xs) → so_far ≡ least_of (map f xs)
least_whole {A} f xs i so_far l whole = sym (lesser_none so_far) ∙ ap (λ (ys : List A). lesser so_far (least_of (map f ys))) (sym (drop_all i xs l)) ∙ whole
