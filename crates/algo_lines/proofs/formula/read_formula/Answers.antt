use Rattle.std.proofs.Common.{Ok, ap, sym, ◌∙◌}
use Rattle.algo_text.specs.Expr.{Expr}
use Rattle.algo_text.specs.declared.fault.AlgoCause.TheVariants.{UnknownName}
use Rattle.syn_base.specs.Bytes.{Bytes}
use Rattle.text_lines.specs.Refusals.{refused}
use Rattle.algo_text.proofs.Grammars.{body_formula, bad_read}
use Rattle.algo_lines.proofs.PortTokens.{unknown_read}
use Rattle.text_lines.proofs.Refusals.{stopped}
use Rattle.algo_lines.proofs.formula.read_formula.Goals as goal

pub returns-in-Ok : goal.returns-in-Ok
returns-in-Ok c = body_formula c.args.number _ c.args.text.now _ c.in-Ok.ensures ∙ ap (λ (x : Expr). Ok x) (sym c.new.ensures)

pub returns-in-Err-BadExpression : goal.returns-in-Err-BadExpression
returns-in-Err-BadExpression c = rw c.bad_expression.ensures (bad_read c.args.number _ c.args.text.now _ _ c.in-Err-BadExpression.field-0-is c.in-Err-BadExpression.ensures)

pub returns-in-Err-UnknownPort : goal.returns-in-Err-UnknownPort
returns-in-Err-UnknownPort c =
    stopped _ _ _ c.unknown.ensures (unknown_read c.args.number _ c.args.text.now _ _ c.in-Err-UnknownPort.field-0-is c.in-Err-UnknownPort.ensures
    ∙ ap (λ (w : Bytes). refused c.args.number (UnknownName w)) (sym c.name_at.ensures))
