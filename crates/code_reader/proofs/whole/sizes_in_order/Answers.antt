-- One more size.
use Rattle.std.proofs.Common.{[], None}
use Rattle.macro_code.specs.ReadText.{at_place, no_size}
use Rattle.code_reader.proofs.Appending.{mapped}
use Rattle.code_reader.proofs.whole.sizes_in_order.Goals as goal

pub loop-place-preserved : goal.loop-place-preserved
loop-place-preserved c =
    mapped (at_place c.args.sizes.now no_size) c.args.places.now c.loop-place.place-index None c.size_at.result []
    c.loop-place.ordered.items c.push.new.self.items c.loop-place-test.true c.size_at.ensures c.in_ok-push.ensures.items
    c.loop-place.invariant
