-- What a text gives a line is what the grammar says of it, and nothing else.
use Rattle.std.proofs.Common.{◌≡◌, ◌↔◌, ℕ, suc, ◌-◌, ◌<◌, nat_le, Bool, true, false, cond, Option, Some, None, Result, Ok, Err, List, length, refl, arith, ap, sym, ◌∙◌, subst}
use Rattle.syn_base.specs.declared.limits.LimitKind.TheVariants.{Tokens}
use Rattle.syn_base.specs.Limits.{bound_of}
use Rattle.body_lang.specs.Expr.{Expr}
use Rattle.body_text.specs.Tokens.{Token, tokens}
use Rattle.body_text.specs.Grammar.{Written, AreWritten}
use Rattle.body_text.specs.Ports.{unknown, resolved}
use Rattle.body_text.specs.Parse.{Parse, good, stops, parse, alone}
use Rattle.body_text.specs.Reads.{AreFew, place_of, IsUnknown}
use Rattle.body_text.proofs.Judged.{is_written}
use Rattle.algo_text.specs.declared.fault.AlgoCause.{AlgoCause}
use Rattle.algo_text.specs.declared.fault.AlgoCause.TheVariants.{
  NotText,
  BadLine,
  BadName,
  BadNumber,
  BadExpression,
  DuplicateName,
  UnknownName,
  WrongLength,
  Unconnected,
  TwiceConnected,
  Recursive,
  Cycle,
  NoMain,
  BadCase,
  Misplaced,
  BadRepeat,
  BadDelay,
  BadEvery,
}
use Rattle.syn_base.specs.Bytes.{Bytes}
use Rattle.text_lines.specs.Refusals.{Refused, Limit, refused}
use Rattle.algo_text.specs.Refusals.{AlgoRefusal}
use Rattle.algo_text.specs.Formulas.{name_in, known_by, read_by, formula_of}
use Rattle.algo_text.specs.Grammatical.{NamesNoPort, IsCause, IsFormula}
use Rattle.algo_text.proofs.Grammars.{written_formula, body_formula, bad_formula, stopped_there}
use Rattle.algo_text.proofs.PortNames.{Found, unknown_named}

module _ (line : ℕ) (ports : List Bytes) (text : Bytes) where
  -- a text whose tokens are an expression's
  known : (w : Written) (o : Option ℕ) → AreFew text → AreWritten (tokens text) w → unknown ports w ≡ o → IsFormula ports text line (known_by line ports text o (resolved ports w))
  known w None few grammar is = record { few = few; tree = w; grammar = grammar; known = is; is = refl }
  known w (Some i) few grammar is =
      let there : Found (tokens text) i = unknown_named ports (tokens text) w i grammar is in
      let first : IsUnknown ports text (place_of text i) = record { few = few; tree = w; grammar = grammar; token = i; first = is; there = refl } in
      (refl, subst (λ (o : Option Token). IsCause ports text (UnknownName (name_in o))) (sym there.is) (record { place = place_of text i; first = first; named = there.is }))

  by_parse : (p : Parse) → AreFew text → alone (parse (suc (length (tokens text))) (tokens text)) ≡ p → IsFormula ports text line (read_by line ports text p)
  by_parse (good w rest) few e = known w (unknown ports w) few (is_written (suc (length (tokens text))) (tokens text) w rest e) refl
  by_parse (stops rest) few e = (
    refl,
    record {
      few = few;
      token = length (tokens text) - length rest;
      fails = stopped_there (suc (length (tokens text))) (tokens text) rest e (omega arith);
      there = refl;
    },
  )

  by_count : (b : Bool) → nat_le (length (tokens text)) (bound_of Tokens) ≡ b
      → IsFormula ports text line (cond b (read_by line ports text (alone (parse (suc (length (tokens text))) (tokens text))))
      (Err (Limit (record { which = Tokens; count = length (tokens text); bound = bound_of Tokens }))))
  by_count true e = by_parse (alone (parse (suc (length (tokens text))) (tokens text))) (grind arith) refl
  by_count false e = (grind arith, refl)

  -- what the definition gives is what the grammar says
  pub formula_is : IsFormula ports text line (formula_of line ports text)
  formula_is = by_count (nat_le (length (tokens text)) (bound_of Tokens)) refl

  unknown_formula : (w : Bytes) → NamesNoPort ports text w → formula_of line ports text ≡ refused line (UnknownName w)
  unknown_formula w h =
      written_formula line ports text h.first.tree h.first.few h.first.grammar
      ∙ ap (λ (o : Option ℕ). known_by line ports text o (resolved ports h.first.tree)) h.first.first
      ∙ ap (λ (o : Option Token). refused line (UnknownName (name_in o))) h.named

  many_shape : {A : Type 0} (m n : ℕ) (x y : A) → n < m → cond (nat_le m n) x y ≡ y
  many_shape m n x y h = let e : nat_le m n ≡ false = grind arith in rw e refl

  at_line : (n : ℕ) (c : AlgoCause) → n ≡ line → formula_of line ports text ≡ refused line c → formula_of line ports text ≡ Err (Refused (record { line = n; cause = c }))
  at_line n c e h = h ∙ ap (λ (m : ℕ). refused m c) (sym e)

  refusal : (n : ℕ) (c : AlgoCause) → n ≡ line → IsCause ports text c → formula_of line ports text ≡ Err (Refused (record { line = n; cause = c }))
  refusal n (BadExpression place) e h = at_line n (BadExpression place) e (bad_formula line ports text place h)
  refusal n (UnknownName w) e h = at_line n (UnknownName w) e (unknown_formula w h)
  refusal n (NotText place) e h = absurd h
  refusal n BadLine e h = absurd h
  refusal n (BadName w) e h = absurd h
  refusal n (BadNumber w) e h = absurd h
  refusal n (DuplicateName w) e h = absurd h
  refusal n (WrongLength w) e h = absurd h
  refusal n (Unconnected w) e h = absurd h
  refusal n (TwiceConnected w) e h = absurd h
  refusal n (Recursive w) e h = absurd h
  refusal n (Cycle ws) e h = absurd h
  refusal n NoMain e h = absurd h
  refusal n BadCase e h = absurd h
  refusal n (Misplaced w) e h = absurd h
  refusal n BadRepeat e h = absurd h
  refusal n BadDelay e h = absurd h
  refusal n (BadEvery w) e h = absurd h

  -- the grammar says one thing of a text
  pub one_formula : (r : Result Expr AlgoRefusal) → IsFormula ports text line r → formula_of line ports text ≡ r
  one_formula (Ok e) h = body_formula line ports text e h
  one_formula (Err (Limit f)) h = many_shape (length (tokens text)) (bound_of Tokens) _ _ h.0 ∙ ap (λ (g : _). Err (Limit g)) (sym h.1)
  one_formula (Err (Refused r)) h = refusal r.line r.cause h.0 h.1

  pub formula_law : (r : Result Expr AlgoRefusal) → (formula_of line ports text ≡ r) ↔ IsFormula ports text line r
  formula_law r = (λ e. subst (λ (x : Result Expr AlgoRefusal). IsFormula ports text line x) e formula_is, one_formula r)
