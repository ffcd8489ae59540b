use Rattle.std.proofs.Common.{ap, arith}
use Rattle.self_timed.specs.Period.{row_end}
use Rattle.self_timed.proofs.Greatest.{done_more}
use Rattle.self_timed.proofs.period.done_by.Goals as goal

pub loop-reaction-preserved : goal.loop-reaction-preserved
loop-reaction-preserved c =
    let most = c.requires in
    let test = c.loop-reaction-test.true in
    let more = done_more c.args.dates.now c.loop-reaction.reaction (omega arith) in
    let here = c.row_end.ensures in
    let row = ap row_end c.row.ensures in
    let so_far = c.loop-reaction.invariant in
    let max = c.max-done.ensures in
    omega arith
