-- Texts as lists of bytes.
use Rattle.std.specs.Prelude.{◌≡◌, ℕ, List, [], ◌∷◌, ◌++◌, Option, option_map, find}
use Rattle.std.specs.Str.{bytes_eq}
use Rattle.syn_base.specs.Bytes.{Bytes}

-- The text begins with these bytes.
abbrev pub IsPrefix : Bytes → Bytes → Type 0
IsPrefix front text = (rest : Bytes) × (text ≡ front ++ rest)

-- The pieces, one after another.
abbrev pub joined : List Bytes → Bytes
joined [] = []
joined (piece ∷ pieces) = piece ++ joined pieces

-- The bytes of the first entry with this name.
abbrev pub named : List (Bytes × Bytes) → Bytes → Option Bytes
named entries name = option_map (λ entry. entry.1) (find (λ entry. bytes_eq entry.0 name) entries)
