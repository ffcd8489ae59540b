use Rattle.std.proofs.Common.{ℕ, Option, ap, ◌∙◌}
use Rattle.std.specs.Prelude.{unwrap_or}
use Rattle.lower_bound.specs.Bound.{brought_in}
use Rattle.lower_bound.proofs.Lesser.{least_step, least_whole}
use Rattle.lower_bound.proofs.arrivals.least_transfer.Goals as goal

pub loop-medium-preserved : goal.loop-medium-preserved
loop-medium-preserved c =
    least_step (brought_in c.args.operator c.args.len) c.args.media.now c.loop-medium.medium-index c.medium-item.result c.loop-medium.least
    c.brought_in.result c.lesser-least.result c.loop-medium-test.true c.medium-item.is c.brought_in.ensures c.lesser-least.ensures c.loop-medium.invariant

pub returns : goal.returns
returns c =
    c.unwrap_or.ensures
    ∙ ap (λ (o : Option ℕ). unwrap_or o 0)
    (least_whole (brought_in c.args.operator c.args.len) c.args.media.now c.loop-medium.medium-index c.loop-medium.least
    c.loop-medium-test.false c.loop-medium.invariant)
