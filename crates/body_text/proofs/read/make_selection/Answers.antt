use Rattle.std.proofs.Common.{ap, refl, ◌∙◌}
use Rattle.std.specs.Option.{option_or}
use Rattle.body_lang.specs.Expr.{view}
use Rattle.body_text.proofs.read.make_selection.Goals as goal

pub returns : goal.returns
returns c = record {
  value = cc (ap view c.in_ok-box_expression.ensures.ok, ap view c.in_ok-box_expression-2.ensures.ok, ap view c.in_ok-box_expression-3.ensures.ok);
  next_is = refl;
  unknown_is = c.or-unknown.ensures ∙ ap (λ o. option_or o c.args.b.unknown) c.or.ensures;
}
