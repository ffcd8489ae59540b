-- The bytes of a word, and whether a word is one of several.
use Rattle.std.specs.Prelude.{ℕ, Bool, List}
use Rattle.std.specs.List.{list_any}
use Rattle.std.specs.Str.{bytes_eq}
use Rattle.syn_base.specs.Bytes.{Bytes}

-- The word is one of these names, byte by byte.
abbrev pub is_among : Bytes → List Bytes → Bool
is_among w names = list_any (bytes_eq w) names
