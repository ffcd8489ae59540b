use Rattle.std.proofs.Common.{rules, pos, get_or, ◌∙◌, w64, FitsSigned}
use Rattle.body_lang.proofs.Sums.{sum_on}
use Rattle.expression_code.proofs.writes.sum.Goals as goal

pub loop-element-preserved : goal.loop-element-preserved
loop-element-preserved c =
    let fits : FitsSigned w64 (get_or c.args.vector.now c.loop-element.element-index (pos 0)) = search rules in
    sum_on c.args.vector.now c.loop-element.element-index c.loop-element.sum-bits c.loop-element-test.true c.loop-element.auto.sum.fits fits ∙ c.loop-element.invariant
