-- How dates become places, and where a label fits.
use Rattle.std.specs.Prelude.{ℕ, ◌+◌, ◌-◌, ◌*◌, ◌/◌, Bool, nat_le, nat_lt, if◌then◌else◌, List, [], ◌∷◌, max, min}
use Rattle.svg_text.specs.declared.scale.TheConstants.{STEPS}
use Rattle.svg_text.specs.declared.scale.Scale.{Scale}

-- the place of a date: the whole length takes the whole width
abbrev pub place : Scale → ℕ → ℕ
place scale date = scale.width * min date scale.length / max 1 scale.length

-- the first of these that is at least n, or else n
abbrev pub first_from : ℕ → List ℕ → ℕ
first_from n [] = n
first_from n (x ∷ xs) = if nat_le n x then x else first_from n xs

-- The dates at the axis stand this far apart: 1, 2, 5, 10 and so on, so that there is room for each of
-- them.
abbrev pub step_of : Scale → ℕ
step_of scale = first_from (scale.length / (scale.width / 100 + 2) + 1) STEPS

-- how many dates there are beside 0
abbrev pub steps_of : Scale → ℕ
steps_of scale = scale.length / step_of scale

-- a text of this many bytes fits between two places
abbrev pub fits : ℕ → ℕ → ℕ → Bool
fits bytes left right = nat_lt bytes ((right - left) / 7)

-- The place halfway from the left place to the right one, rounded down.
abbrev pub middle : ℕ → ℕ → ℕ
middle left right = left + (right - left) / 2

-- a thousand units, and a thousand more for each 128 of what is to be seen, of which 65,536 count
abbrev pub width_for : ℕ → ℕ
width_for count = 1000 * (1 + min count 65536 / 128)
