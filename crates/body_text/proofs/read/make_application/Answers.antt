use Rattle.std.proofs.Common.{ap, ap₂, refl}
use Rattle.body_lang.specs.Expr.{view}
use Rattle.body_lang.specs.Expr as plain
use Rattle.body_text.proofs.read.make_application.Goals as goal

pub returns : goal.returns
returns c = record { value = ap₂ (plain.apply c.args.op) (ap view c.in_ok-box_expression.ensures.ok) (ap view c.in_ok-box_expression-2.ensures.ok); next_is = refl; unknown_is = c.or.ensures }
