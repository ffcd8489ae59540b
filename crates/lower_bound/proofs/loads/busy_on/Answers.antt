use Rattle.std.proofs.Common.{arith}
use Rattle.lower_bound.proofs.Steps.{on_step}
use Rattle.lower_bound.proofs.loads.busy_on.Goals as goal

pub overflow_add-busy : goal.overflow_add-busy
overflow_add-busy c =
    let s = on_step c.args.operator c.args.decisions.now c.loop-decision.decision-index c.decision-item.result c.loop-decision-test.true c.decision-item.is in
    let so_far = c.loop-decision.invariant in
    let here = c.time_on-busy.ensures in
    let most = c.requires in
    record { fits = omega arith }

pub loop-decision-preserved : goal.loop-decision-preserved
loop-decision-preserved c =
    let s = on_step c.args.operator c.args.decisions.now c.loop-decision.decision-index c.decision-item.result c.loop-decision-test.true c.decision-item.is in
    let so_far = c.loop-decision.invariant in
    let here = c.time_on-busy.ensures in
    omega arith
