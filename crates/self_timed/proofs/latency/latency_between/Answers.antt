use Rattle.std.proofs.Common.{ap, arith}
use Rattle.self_timed.specs.Latency.{ticks_in}
use Rattle.self_timed.proofs.Listing.{taken_more}
use Rattle.self_timed.proofs.latency.latency_between.Goals as goal

pub loop-reaction-preserved : goal.loop-reaction-preserved
loop-reaction-preserved c =
    let many = c.reactions-reaction-end.ensures in
    let test = c.loop-reaction-test.true in
    let more = taken_more (ticks_in c.args.sensor c.args.actuator) c.args.dates.now c.loop-reaction.reaction (omega arith) in
    let here = c.ticks_in.ensures in
    let row = ap (ticks_in c.args.sensor c.args.actuator) c.row.ensures in
    let so_far = c.loop-reaction.invariant in
    let max = c.max-ticks.ensures in
    omega arith
