-- What reading an expression returns.
use Rattle.std.specs.Prelude.{◌≡◌, ℕ, ◌<◌, ◌≤◌, List, length, Option, Some, None, slice_get, Result, Ok, Err}
use Rattle.syn_base.specs.declared.limits.LimitKind.TheVariants.{Tokens}
use Rattle.syn_base.specs.Limits.{bound_of}
use Rattle.body_lang.specs.declared.expression.Expr as declared
use Rattle.body_lang.specs.Expr.{Expr, view}
use Rattle.body_text.specs.declared.fault.BodyFault.{BodyFault}
use Rattle.body_text.specs.declared.fault.BodyFault.TheVariants.{Limit, BadExpression, UnknownPort, OutOfMemory}
use Rattle.syn_base.specs.Bytes.{Bytes}
use Rattle.body_text.specs.Tokens.{Placed, placed, tokens}
use Rattle.body_text.specs.Grammar.{Written, AreWritten, FailsAt}
use Rattle.body_text.specs.Ports.{unknown, resolved}

-- The place at which a token begins in its text, or the given place if there is no token.
abbrev pub place_or : ℕ → Option Placed → ℕ
place_or end None = end
place_or end (Some p) = p.place

-- The place of token i, or the text's length after the last token.
abbrev pub place_of : Bytes → ℕ → ℕ
place_of text i = place_or (length text) (slice_get (placed text) i)

-- There are not too many tokens.
abbrev pub AreFew : Bytes → Type 0
AreFew text = length (tokens text) ≤ bound_of Tokens

-- The text is this expression over these ports.
pub record IsBody (ports : List Bytes) (text : Bytes) (expression : Expr) : Type 0 where
  pub few : AreFew text
  pub tree : Written
  pub grammar : AreWritten (tokens text) tree
  pub known : unknown ports tree ≡ None
  pub is : resolved ports tree ≡ expression

-- The grammar fails at the place.
pub record IsBad (text : Bytes) (place : ℕ) : Type 0 where
  pub few : AreFew text
  pub token : ℕ
  pub fails : FailsAt (tokens text) token
  pub there : place_of text token ≡ place

-- The first port that the text names and that is none stands at the place.
pub record IsUnknown (ports : List Bytes) (text : Bytes) (place : ℕ) : Type 0 where
  pub few : AreFew text
  pub tree : Written
  pub grammar : AreWritten (tokens text) tree
  pub token : ℕ
  pub first : unknown ports tree ≡ Some token
  pub there : place_of text token ≡ place

-- What is returned is right: too many tokens come before faults of the grammar, and these before unknown ports.
abbrev pub Reads : List Bytes → Bytes → Result declared.Expr BodyFault → Type 0
Reads ports text (Ok e) = IsBody ports text (view e)
Reads ports text (Err (Limit f)) = (bound_of Tokens < length (tokens text)) ×
    (f ≡ record { which = Tokens; count = length (tokens text); bound = bound_of Tokens })
Reads ports text (Err (BadExpression place)) = IsBad text place
Reads ports text (Err (UnknownPort place)) = IsUnknown ports text place
Reads ports text (Err OutOfMemory) = Unit {0}
