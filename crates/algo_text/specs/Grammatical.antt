-- What the text of an expression is by the grammar of expressions: the expression, or the first thing that is wrong
-- with it.
use Rattle.std.specs.Prelude.{◌≡◌, ℕ, ◌<◌, List, length, Some, slice_get, Result, Ok, Err}
use Rattle.syn_base.specs.declared.limits.LimitKind.TheVariants.{Tokens}
use Rattle.syn_base.specs.Limits.{bound_of}
use Rattle.body_lang.specs.Expr.{Expr}
use Rattle.body_text.specs.Tokens.{tokens, name}
use Rattle.body_text.specs.Reads.{IsBody, IsBad, IsUnknown}
use Rattle.algo_text.specs.declared.fault.AlgoCause.{AlgoCause}
use Rattle.algo_text.specs.declared.fault.AlgoCause.TheVariants.{
  NotText,
  BadLine,
  BadName,
  BadNumber,
  BadExpression,
  DuplicateName,
  UnknownName,
  WrongLength,
  Unconnected,
  TwiceConnected,
  Recursive,
  Cycle,
  NoMain,
  BadCase,
  Misplaced,
  BadRepeat,
  BadDelay,
  BadEvery,
}
use Rattle.syn_base.specs.Bytes.{Bytes}
use Rattle.text_lines.specs.Refusals.{Refused, Limit}
use Rattle.algo_text.specs.Refusals.{AlgoRefusal}

-- The first port that the text names and that is none of these has this name.
pub record NamesNoPort (ports : List Bytes) (text w : Bytes) : Type 0 where
  pub place : ℕ
  pub first : IsUnknown ports text place
  pub named : slice_get (tokens text) first.token ≡ Some (name w)

module _ (ports : List Bytes) (text : Bytes) where
  -- The text is no expression over these ports for this cause: the grammar fails at a place, or a name is none of
  -- the ports.
  abbrev pub IsCause : AlgoCause → Type 0
  IsCause (BadExpression place) = IsBad text place
  IsCause (UnknownName w) = NamesNoPort ports text w
  IsCause (NotText place) = ⊥
  IsCause BadLine = ⊥
  IsCause (BadName w) = ⊥
  IsCause (BadNumber w) = ⊥
  IsCause (DuplicateName w) = ⊥
  IsCause (WrongLength w) = ⊥
  IsCause (Unconnected w) = ⊥
  IsCause (TwiceConnected w) = ⊥
  IsCause (Recursive w) = ⊥
  IsCause (Cycle ws) = ⊥
  IsCause NoMain = ⊥
  IsCause BadCase = ⊥
  IsCause (Misplaced w) = ⊥
  IsCause BadRepeat = ⊥
  IsCause BadDelay = ⊥
  IsCause (BadEvery w) = ⊥

  -- Too many tokens, then the grammar, then the ports; a refusal is at the line of the text.
  abbrev pub IsFormula : ℕ → Result Expr AlgoRefusal → Type 0
  IsFormula line (Ok e) = IsBody ports text e
  IsFormula line (Err (Limit f)) =
      (bound_of Tokens < length (tokens text)) ×
      (f ≡ record { which = Tokens; count = length (tokens text); bound = bound_of Tokens })
  IsFormula line (Err (Refused r)) = (r.line ≡ line) × IsCause r.cause
