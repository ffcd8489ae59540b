use Rattle.std.proofs.Common.{◌+◌, arith, refl, ◌∙◌}
use Rattle.std.proofs.lemmas.List.{length-set}
use Rattle.comm_routing.proofs.Ordered.{moved_on}
use Rattle.comm_routing.proofs.ascending.put_in.Goals as goal

pub loop-place-preserved : goal.loop-place-preserved
loop-place-preserved c =
    let size = c.loop-place.invariant.size in
    let more = c.loop-place-test.true in
    let room = c.requires in
    record {
      size = length-set c.loop-place.ready c.loop-place.place c.min.result ∙ size;
      left = moved_on c.loop-place.ready c.loop-place.place
          (c.loop-place.place + 1) c.args.count c.loop-place.later _ c.min.result c.max-later.result more (omega arith)
          (omega arith) refl c.min.ensures c.max-later.ensures ∙ c.loop-place.invariant.left;
    }
