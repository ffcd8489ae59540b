-- Texts that stand between quotes as they are, in JSON, in DOT and in XML.
use Rattle.std.specs.Prelude.{ℕ, Bool, ◌&&◌, ◌||◌, ◌==◌, nat_le, not, List}
use Rattle.std.specs.List.{list_all}

-- no control character, and none of `"`, `&`, `'`, `<`, `>` and `\`
abbrev pub stands_for_itself : ℕ → Bool
stands_for_itself b =
    nat_le 32 b &&
    not ((b == 34) || (b == 38) || (b == 39) || (b == 60) || (b == 62) || (b == 92))

-- Each byte of the text stays as it is between quotes, in JSON, in DOT and in XML.
abbrev pub needs_no_escape : List ℕ → Bool
needs_no_escape text = list_all stands_for_itself text
