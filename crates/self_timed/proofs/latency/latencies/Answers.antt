use Rattle.std.proofs.Common.{◌∙◌, ◌++◌, sym}
use Rattle.self_timed.specs.Latency.{latencies_from}
use Rattle.self_timed.proofs.Listing.{flat_more}
use Rattle.self_timed.proofs.latency.latencies.Goals as goal

pub loop-op-preserved : goal.loop-op-preserved
loop-op-preserved c =
    c.in_ok-append_from.ensures
    ∙ (λ j. c.loop-op.invariant j ++ latencies_from (c.vertices-vertices.ensures.same j) c.args.dates.now c.loop-op.op)
    ∙ sym (flat_more (latencies_from c.args.flat.now.vertices c.args.dates.now) c.loop-op.op)
