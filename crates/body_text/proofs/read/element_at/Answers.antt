use Rattle.std.proofs.Common.{ap, refl}
use Rattle.body_lang.specs.Expr.{view}
use Rattle.body_lang.specs.Expr as plain
use Rattle.body_text.proofs.read.element_at.Goals as goal

pub returns : goal.returns
returns c = record { value = ap (plain.element c.args.port) (ap view c.in_ok-box_expression.ensures.ok); next_is = refl; unknown_is = c.or.ensures }
