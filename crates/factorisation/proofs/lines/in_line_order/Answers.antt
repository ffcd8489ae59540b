use Rattle.std.proofs.Common.{refl, arith}
use Rattle.factorisation.proofs.Placing.{one_more, next_line}
use Rattle.factorisation.proofs.lines.in_line_order.Goals as goal

pub loop-left-preserved : goal.loop-left-preserved
loop-left-preserved c =
    one_more c.loop-left.lines.items c.insert.new.self.items c.deref.result.now
    (λ f. f.now) c.args.feeds.now c.loop-left.left c.place_for-place.result _ c.index-feeds-left.result c.loop-left.invariant
    c.deref.ensures.value c.in_ok-insert.ensures.items
    refl c.place_for-place.ensures.put (next_line c.args.feeds.now c.loop-left.left c.index-feeds-left.result (omega arith) (omega arith) c.index-feeds-left.is)
