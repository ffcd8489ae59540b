-- Names: 1 to 32 letters, digits and `_`, of which the first is no digit.
use Rattle.std.specs.Prelude.{ℕ, Bool, false, ◌&&◌, ◌||◌, ◌==◌, not, nat_le, List, [], ◌∷◌, length}
use Rattle.std.specs.List.{list_all}

-- The byte is one of the ASCII digits `0` to `9`.
abbrev pub is_digit : ℕ → Bool
is_digit b = nat_le 48 b && nat_le b 57

-- The byte is one of the ASCII letters `A` to `Z` and `a` to `z`.
abbrev pub is_letter : ℕ → Bool
is_letter b = (nat_le 65 b && nat_le b 90) || (nat_le 97 b && nat_le b 122)

-- The byte may stand in a name.
abbrev pub is_name_byte : ℕ → Bool
is_name_byte b = is_letter b || is_digit b || (b == 95)

-- The text is not empty and begins with no digit.
abbrev pub begins_name : List ℕ → Bool
begins_name [] = false
begins_name (b ∷ bs) = not (is_digit b)

-- The text is a name: 1 to 32 letters, digits and `_`, of which the first is no digit.
abbrev pub is_name : List ℕ → Bool
is_name text = begins_name text && nat_le (length text) 32 && list_all is_name_byte text
