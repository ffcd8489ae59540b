-- Lines of a text and words of a line, as lists.
use Rattle.std.specs.Prelude.{
  ℕ,
  Bool,
  not,
  ◌==◌,
  ◌||◌,
  ◌&&◌,
  nat_le,
  ◌<◌,
  ◌≤◌,
  List,
  [],
  ◌∷◌,
  take,
  Option,
  Some,
  None,
  if◌then◌else◌,
  position,
  slice_range,
  slice_index_or,
  pos,
}
use Rattle.std.specs.List.{position_or_len}
use Rattle.syn_base.specs.Bytes.{Bytes}
use Rattle.syn_base.specs.Name.{is_name}
use Rattle.text_lines.specs.declared.Span.{Span}
use Rattle.std.specs.Str.{bytes_eq}
use Rattle.std.specs.Fmt.{signed_decimal}

-- The byte ends a line.
abbrev pub is_feed : ℕ → Bool
is_feed b = b == 10

-- The byte begins a comment.
abbrev pub is_hash : ℕ → Bool
is_hash b = b == 35

-- The byte is a tab, a carriage return or a space.
abbrev pub is_blank : ℕ → Bool
is_blank b = b == 9 || b == 13 || b == 32

-- The byte may not stand in a line: it is neither a blank nor a printable character.
abbrev pub is_foreign : ℕ → Bool
is_foreign b = not (is_blank b || (nat_le 33 b && nat_le b 126))

-- The pieces with the byte b before the first of them.
abbrev pub with_byte : ℕ → List (List ℕ) → List (List ℕ)
with_byte b [] = (b ∷ []) ∷ []
with_byte b (l ∷ ls) = (b ∷ l) ∷ ls

-- Each line ends at a line feed, and the last may lack one. No bytes are no line.
abbrev pub lines_of : List ℕ → List (List ℕ)
lines_of [] = []
lines_of (b ∷ bs) = if is_feed b then [] ∷ lines_of bs else with_byte b (lines_of bs)

-- A line up to its comment.
abbrev pub code_of : List ℕ → List ℕ
code_of line = take (position_or_len is_hash line) line

-- The place of the first byte before the comment of a line that may not stand there.
abbrev pub foreign_place : List ℕ → Option ℕ
foreign_place line = position is_foreign (code_of line)

-- The words of a text that begins with the byte b, no blank, from the bytes after it and their words: b is a word of
-- its own where a blank or nothing follows, else the first byte of the first word.
abbrev pub with_letter : ℕ → List ℕ → List (List ℕ) → List (List ℕ)
with_letter b [] ws = (b ∷ []) ∷ ws
with_letter b (c ∷ _) ws = if is_blank c then (b ∷ []) ∷ ws else with_byte b ws

-- The words of a line without comment: what stands between blanks.
abbrev pub words_of : List ℕ → List (List ℕ)
words_of [] = []
words_of (b ∷ bs) = if is_blank b then words_of bs else with_letter b bs (words_of bs)

-- The word at this place of a line, counted from 0; the empty word if there is none.
abbrev pub word : List Bytes → ℕ → Bytes
word words place = slice_index_or words place []

-- The first of these words is this one.
abbrev pub begins : List Bytes → Bytes → Bool
begins words key = bytes_eq (word words 0) key

-- The word of a count: its decimal digits.
abbrev pub count_text : ℕ → Bytes
count_text n = signed_decimal (pos n)

-- The name that a word is, if it is one.
abbrev pub some_name : Bytes → Option Bytes
some_name word = if is_name word then Some word else None

-- The bytes of a span.
abbrev pub text_at : List ℕ → Span → List ℕ
text_at line s = slice_range line s.from s.to

-- The span lies in the line, and is not empty.
abbrev pub IsWithin : ℕ → Span → Type 0
IsWithin n s = (s.from < s.to) × (s.to ≤ n)
