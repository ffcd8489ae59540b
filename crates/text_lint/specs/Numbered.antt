-- Which lines of a text begin with a word.
use Rattle.std.specs.Prelude.{
  ℕ,
  suc,
  Bool,
  not,
  ◌&&◌,
  ◌==◌,
  List,
  [],
  ◌∷◌,
  ◌++◌,
  length,
  slice_index_or,
  if◌then◌else◌,
}
use Rattle.std.specs.Str.{bytes_eq}
use Rattle.syn_base.specs.Bytes.{Bytes}
use Rattle.text_lines.specs.Text.{code_of, lines_of, words_of}

-- There are words, and the first of them is this one.
abbrev pub begins_with : Bytes → List Bytes → Bool
begins_with key words = not (length words == 0) && bytes_eq (slice_index_or words 0 []) key

-- the line of this number
abbrev pub number_by : Bytes → ℕ → Bytes → List ℕ
number_by key n line = if begins_with key (words_of (code_of line)) then n ∷ [] else []

-- of lines that are numbered from n on
abbrev pub numbers_from : Bytes → ℕ → List Bytes → List ℕ
numbers_from key n [] = []
numbers_from key n (line ∷ lines) = number_by key n line ++ numbers_from key (suc n) lines

-- the numbers of the lines of a text, from 1, whose first word is this one
abbrev pub numbers_of : Bytes → Bytes → List ℕ
numbers_of key text = numbers_from key 1 (lines_of text)
