use Rattle.std.proofs.Common.{arith}
use Rattle.self_timed.specs.Table.{entry_in}
use Rattle.lower_bound.specs.Bound.{least}
use Rattle.lower_bound.proofs.Sums.{sum_more}
use Rattle.lower_bound.proofs.work.all_work.Goals as goal

pub loop-op-preserved : goal.loop-op-preserved
loop-op-preserved c =
    let d = c.args.durations.now in
    let e = sum_more (least d.operators (entry_in d)) c.loop-op.op in
    let s = c.loop-op.invariant.sum in
    let l = c.loop-op.invariant.low in
    let same = c.least-work.ensures.same in
    let low = c.least-work.ensures.bounded in
    record { sum = omega arith; low = omega arith }
