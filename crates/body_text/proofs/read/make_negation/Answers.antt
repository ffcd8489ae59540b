use Rattle.std.proofs.Common.{ap, refl}
use Rattle.body_lang.specs.Expr.{view}
use Rattle.body_lang.specs.Expr as plain
use Rattle.body_text.proofs.read.make_negation.Goals as goal

pub returns : goal.returns
returns c = record { value = ap plain.negation (ap view c.in_ok-box_expression.ensures.ok); next_is = refl; unknown_is = refl }
