use Rattle.std.proofs.Common.{ap, arith, length}
use Rattle.lower_bound.proofs.Counting.{all_step}
use Rattle.lower_bound.proofs.transfers.count_all.Goals as goal

pub overflow_add-count : goal.overflow_add-count
overflow_add-count c =
    let s = all_step c.args.decisions.now c.loop-decision.decision-index c.decision-item.result c.loop-decision-test.true c.decision-item.is in
    let so_far = c.loop-decision.invariant in
    let most = c.requires in
    record { fits = omega arith }

pub loop-decision-preserved : goal.loop-decision-preserved
loop-decision-preserved c =
    let s = all_step c.args.decisions.now c.loop-decision.decision-index c.decision-item.result c.loop-decision-test.true c.decision-item.is in
    let so_far = c.loop-decision.invariant in
    let same = ap length c.as_slice.ensures in
    omega arith
