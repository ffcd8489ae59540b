-- One more operator.
use Rattle.std.proofs.Common.{[], None}
use Rattle.macro_code.specs.ReadText.{at_place}
use Rattle.code_reader.proofs.Appending.{mapped}
use Rattle.code_reader.proofs.whole.owners_in_order.Goals as goal

pub loop-place-preserved : goal.loop-place-preserved
loop-place-preserved c =
    mapped (at_place c.args.owners.now 0) c.args.places.now c.loop-place.place-index None c.owner_at.result [] c.loop-place.ordered.items
    c.push.new.self.items c.loop-place-test.true c.owner_at.ensures c.in_ok-push.ensures.items
    c.loop-place.invariant
