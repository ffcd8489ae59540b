-- The greatest and the least of some numbers, and the numbers below one.
use Rattle.std.specs.Prelude.{ℕ, zero, suc, List, [], ◌∷◌, ◌++◌, max, min, Option, Some, None}

-- The greatest of these numbers, and 0 if there are none.
abbrev pub greatest : List ℕ → ℕ
greatest [] = 0
greatest (n ∷ ns) = max n (greatest ns)

-- The lesser of two numbers, each of which may be none; none only if both are.
abbrev pub lesser : Option ℕ → Option ℕ → Option ℕ
lesser None f = f
lesser (Some t) None = Some t
lesser (Some t) (Some u) = Some (min t u)

-- The numbers from 0 up to n - 1, in order; none if n is 0.
abbrev pub numbers_below : ℕ → List ℕ
numbers_below zero = []
numbers_below (suc n) = numbers_below n ++ n ∷ []
