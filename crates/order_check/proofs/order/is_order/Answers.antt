use Rattle.std.proofs.Common.{length, ◌∙◌}
use Rattle.std.proofs.lemmas.Bool.Decides.{Decides-at}
use Rattle.executive_program.specs.Sequences.{sequences}
use Rattle.order_check.specs.Order.{is_order}
use Rattle.order_check.proofs.Listed.{listed_are}
use Rattle.order_check.proofs.Ordered.{decides_order}
use Rattle.order_check.proofs.order.is_order.Goals as goal

pub returns : goal.returns
returns c =
    let p = c.args.program.now in let g = c.args.flat.now in let a = c.args.archi.now in let o = c.args.order.now in
    Decides-at c.passes.result (is_order p g.vertices (sequences a) (length a.media) o)
    (c.passes.ensures
    ∙ (λ i. is_order p g.vertices (listed_are a c.operators.result.now c.media.result.now c.operators.ensures.same c.media.ensures.same i) (length (c.media.ensures.same i)) o))
    (decides_order p g (sequences a) (length a.media) o)
