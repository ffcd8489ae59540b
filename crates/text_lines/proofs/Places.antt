-- what `position` answers, as a place
use Rattle.std.proofs.Common.{◌≡◌, ℕ, suc, ◌+◌, ◌≤◌, Bool, not, true, false, cond, List, [], ◌∷◌, length, None, Some, arith, nat_lt, position, sym, drop, length-drop, take, ◌-◌}
use Rattle.std.specs.List.{position_or_len, prefix_len}
use Rattle.std.proofs.lemmas.Grind.{common_steps}
use Rattle.std.proofs.lemmas.List.{take_all}

one_more : (b : Bool) (m n : ℕ) → m ≤ n → cond b (1 + m) 0 ≤ suc n
one_more true m n h = omega arith
one_more false m n h = omega arith

pub prefix_len_le : {X : Type 0} (p : X → Bool) (xs : List X) → prefix_len p xs ≤ length xs
prefix_len_le p [] = omega arith
prefix_len_le p (x ∷ xs) = one_more (p x) (prefix_len p xs) (length xs) (prefix_len_le p xs)

chosen_some : (b : Bool) (m n : ℕ) → cond b (Some m) None ≡ Some n → m ≡ n
chosen_some true m n h = cc
chosen_some false m n h = cc

pub found_at : {X : Type 0} (p : X → Bool) (xs : List X) (n : ℕ) → position p xs ≡ Some n → position_or_len p xs ≡ n
found_at p xs n h = chosen_some (nat_lt (position_or_len p xs) (length xs)) _ n h

chosen_none : (m n : ℕ) → m ≤ n → cond (nat_lt m n) (Some m) None ≡ None → m ≡ n
chosen_none m n le h = grind (arith, common_steps)

pub missing_at : {X : Type 0} (p : X → Bool) (xs : List X) → position p xs ≡ None → position_or_len p xs ≡ length xs
missing_at p xs h = chosen_none _ _ (prefix_len_le (λ x. not (p x)) xs) h

-- as the call on `&xs[from..]` says it
pub missing_from : {X : Type 0} (p : X → Bool) (xs : List X) (from : ℕ) → from ≤ length xs → None ≡ position p (take (length xs - from) (drop from xs))
    → length xs ≡ from + position_or_len p (drop from xs)
missing_from p xs from le h =
    let all_of : take (length xs - from) (drop from xs) ≡ drop from xs = take_all (length xs - from) (drop from xs) (omega (arith, length-drop from xs)) in
    let last = missing_at p (drop from xs) (sym (rw all_of at h)) in
    omega (arith, last, length-drop from xs)
