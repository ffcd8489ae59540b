-- What contracts see of a token, and how a text is cut.
use Rattle.std.specs.Prelude.{◌≡◌, ℕ, ◌<◌, ◌≤◌, [], ◌∷◌, length, drop, Option, MatchOption, slice_range}
use Rattle.text_lines.specs.declared.Span.{Span}
use Rattle.body_text.specs.declared.token.Mark.{Mark}
use Rattle.body_text.specs.declared.token.Mark.TheVariants.{OpenRound, CloseRound, OpenSquare, CloseSquare, Comma}
use Rattle.body_text.specs.declared.token.Token as declared
use Rattle.body_text.specs.declared.token.Token.TheVariants as cut
use Rattle.body_text.specs.declared.token.Placed as declared_placed
use Rattle.syn_base.specs.Bytes.{Bytes}
use Rattle.body_text.specs.Tokens.{
  Token,
  Placed,
  number,
  name,
  open_round,
  close_round,
  open_square,
  close_square,
  comma,
  bad,
  mark_or_word,
  mark_of,
  tokens_from,
}

abbrev pub mark_view : Mark → Token
mark_view OpenRound = open_round
mark_view CloseRound = close_round
mark_view OpenSquare = open_square
mark_view CloseSquare = close_square
mark_view Comma = comma

abbrev pub token_view : declared.Token → Token
token_view (cut.Number v) = number v
token_view (cut.Name bytes) = name bytes.now
token_view (cut.Mark m) = mark_view m
token_view cut.Bad = bad

abbrev pub placed_view : declared_placed.Placed → Placed
placed_view p = record { token = token_view p.token; place = p.place }

-- The token that these bytes are.
abbrev pub token_in : Bytes → Token
token_in [] = bad
token_in (b ∷ bs) = mark_or_word (mark_of b) (b ∷ bs)

-- The next token from a place on stands at this span, which is not empty.
pub record IsCut (text : Bytes) (from : ℕ) (span : Span) : Type 0 where
  pub on : from ≤ span.from
  pub some : span.from < span.to
  pub within : span.to ≤ length text
  pub is : tokens_from from 0 (drop from text) ≡
      record { token = token_in (slice_range text span.from span.to); place = span.from } ∷
      tokens_from span.to 0 (drop span.to text)

-- The next token from a place on stands at this span, or there is none.
abbrev pub IsNext : Bytes → ℕ → Option Span → Type 0
IsNext text from o = MatchOption o (tokens_from from 0 (drop from text) ≡ []) (λ s. IsCut text from s)
