-- What the text of an expression gives a line: the expression over these ports, or the line's refusal.
use Rattle.std.specs.Prelude.{
  ℕ,
  suc,
  nat_le,
  List,
  [],
  length,
  Option,
  Some,
  None,
  Result,
  Ok,
  Err,
  slice_get,
  if◌then◌else◌,
  ◌-◌,
}
use Rattle.syn_base.specs.declared.limits.LimitKind.TheVariants.{Tokens}
use Rattle.syn_base.specs.Limits.{bound_of}
use Rattle.body_lang.specs.Expr.{Expr}
use Rattle.body_text.specs.Tokens.{Token, tokens, name}
use Rattle.body_text.specs.Ports.{unknown, resolved}
use Rattle.body_text.specs.Parse.{Parse, good, stops, parse, alone}
use Rattle.body_text.specs.Reads.{place_of}
use Rattle.algo_text.specs.declared.fault.AlgoCause.TheVariants.{BadExpression, UnknownName}
use Rattle.syn_base.specs.Bytes.{Bytes}
use Rattle.text_lines.specs.Refusals.{Refused, Limit}
use Rattle.algo_text.specs.Refusals.{AlgoRefusal}

-- The name that the token is; the empty text if it is no name, or if there is no token.
abbrev pub name_in : Option Token → Bytes
name_in (Some (name p)) = p
name_in _ = []

module _ (line : ℕ) (ports : List Bytes) (text : Bytes) where
  -- The expression, if no token is given; otherwise the refusal of the name that the token of this
  -- number is, since no port has it.
  abbrev pub known_by : Option ℕ → Expr → Result Expr AlgoRefusal
  known_by None e = Ok e
  known_by (Some place) e =
      Err (Refused (record { line = line; cause = UnknownName (name_in (slice_get (tokens text) place)) }))

  -- The expression that a parse of the text found, or its refusal: by the grammar, at the place
  -- at which parsing stopped, or else for a name that is none of the ports.
  abbrev pub read_by : Parse → Result Expr AlgoRefusal
  read_by (good tree rest) = known_by (unknown ports tree) (resolved ports tree)
  read_by (stops rest) =
      Err (Refused (record {
        line = line;
        cause = BadExpression (place_of text (length (tokens text) - length rest));
      }))

  -- The expression over these ports that the text writes, or its first refusal: for too many
  -- tokens, else by the grammar, else for a name that is none of the ports.
  abbrev pub formula_of : Result Expr AlgoRefusal
  formula_of =
      if nat_le (length (tokens text)) (bound_of Tokens)
      then read_by (alone (parse (suc (length (tokens text))) (tokens text)))
      else Err (Limit (record { which = Tokens; count = length (tokens text); bound = bound_of Tokens }))
