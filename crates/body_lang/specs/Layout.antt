-- Where vectors lie that stand one after another in a flat row.
use Rattle.std.specs.Prelude.{ℕ, ◌+◌, ◌-◌, List, [], ◌∷◌}

-- Where vectors of these lengths end, if the first begins at this place.
abbrev pub ends_from : ℕ → List ℕ → List ℕ
ends_from at [] = []
ends_from at (len ∷ lens) = (at + len) ∷ ends_from (at + len) lens

-- Where each vector begins, and where the last one ends.
abbrev pub bounds_of : List ℕ → List ℕ
bounds_of lens = 0 ∷ ends_from 0 lens

-- The lengths of vectors that lie one after another in a flat row and end at these places, if the
-- first one begins at the given place.
abbrev pub lengths_from : ℕ → List ℕ → List ℕ
lengths_from at [] = []
lengths_from at (end ∷ ends) = (end - at) ∷ lengths_from end ends

-- The lengths of the vectors with these bounds.
abbrev pub lengths_between : List ℕ → List ℕ
lengths_between [] = []
lengths_between (at ∷ ends) = lengths_from at ends
