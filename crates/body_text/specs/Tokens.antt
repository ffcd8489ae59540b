-- The tokens of an expression's text, by the longest token.
use Rattle.std.specs.Prelude.{
  ℕ,
  zero,
  suc,
  ◌-◌,
  ◌==◌,
  min,
  Bool,
  not,
  if◌then◌else◌,
  List,
  [],
  ◌∷◌,
  take,
  map,
  ℤ,
  Option,
  Some,
  None,
  Result,
  Ok,
  Err,
}
use Rattle.std.specs.List.{position_or_len}
use Rattle.syn_base.specs.Bytes.{Bytes}
use Rattle.syn_base.specs.Name.{is_name, is_name_byte, is_digit}
use Rattle.syn_base.specs.Integer.{integer_of}
use Rattle.syn_base.specs.declared.integer.NumFault.{NumFault}
use Rattle.text_lines.specs.Text.{is_blank}

-- A token of an expression's text: a number, a name, a mark of the grammar, or what
-- is none of these.
pub data Token : Type 0 where
  number : ℤ → Token
  name : Bytes → Token
  open_round : Token
  close_round : Token
  open_square : Token
  close_square : Token
  comma : Token
  -- Another byte, a `-` without digits, or a number that 64 bits do not hold.
  bad : Token

-- A token of a text, and the number of the byte at which it begins, from 0.
pub record Placed : Type 0 where
  pub token : Token
  -- The place of its first byte in the text.
  pub place : ℕ

-- How many bytes at the front pass.
abbrev pub front : (ℕ → Bool) → Bytes → ℕ
front passes bs = position_or_len (λ b. not (passes b)) bs

-- The length of the token that begins with byte b, where these bytes follow it: of a number, with a `-` in front or
-- without; of a name of up to 32 bytes; or one byte.
abbrev pub len_by : ℕ → Bytes → ℕ
len_by b bs = if is_digit b then suc (front is_digit bs) else
    (if b == 45 then suc (front is_digit bs) else
    (if is_name_byte b then min 32 (suc (front is_name_byte bs)) else 1))

-- A number, where 64 bits hold it.
abbrev pub number_or_bad : Result ℤ NumFault → Token
number_or_bad (Ok v) = number v
number_or_bad (Err e) = bad

-- The token of bytes that are no mark: a name, a number, or neither.
abbrev pub word_token : Bytes → Token
word_token word = if is_name word then name word else number_or_bad (integer_of word)

-- The mark of the grammar that a byte is.
abbrev pub mark_of : ℕ → Option Token
mark_of b = if b == 40 then Some open_round else
    (if b == 41 then Some close_round else
    (if b == 91 then Some open_square else
    (if b == 93 then Some close_square else
    (if b == 44 then Some comma else None))))

-- The token of these bytes: the mark that is given, or else the name or the number that they write,
-- or `bad` if they write neither.
abbrev pub mark_or_word : Option Token → Bytes → Token
mark_or_word (Some t) word = t
mark_or_word None word = word_token word

-- The token that begins with byte b, where these bytes follow it.
abbrev pub token_of : ℕ → Bytes → Token
token_of b bs = mark_or_word (mark_of b) (take (len_by b bs) (b ∷ bs))

-- The tokens of bytes that begin at this place of a text, where this many of the bytes belong to a token before.
-- Blanks may stand between tokens.
abbrev pub tokens_from : ℕ → ℕ → Bytes → List Placed
tokens_from place inside [] = []
tokens_from place (suc inside) (b ∷ bs) = tokens_from (suc place) inside bs
tokens_from place zero (b ∷ bs) = if is_blank b then tokens_from (suc place) zero bs
    else (record { token = token_of b bs; place = place } ∷ tokens_from (suc place) (len_by b bs - 1) bs)

-- The tokens of a text, each with its place.
abbrev pub placed : Bytes → List Placed
placed text = tokens_from 0 0 text

-- The tokens of a text in order, without their places.
abbrev pub tokens : Bytes → List Token
tokens text = map (λ p. p.token) (placed text)
