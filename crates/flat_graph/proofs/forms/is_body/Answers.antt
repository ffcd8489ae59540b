use Rattle.std.proofs.Common.{sym, ◌∙◌, arith, eq-eqb, le-leb}
use Rattle.flat_graph.proofs.Bodies.{is_body_by, and_true}
use Rattle.flat_graph.proofs.forms.is_body.Goals as goal

pub returns-then-body-outs : goal.returns-then-body-outs
returns-then-body-outs c =
    c.are_expressions.ensures ∙ and_true _ _ (eq-eqb _ _ c.if-body-outs.true) ∙ and_true _ _ (le-leb 1 c.args.outs (omega arith)) ∙ sym (is_body_by c.args.ins c.args.outs c.args.body.now)
