use Rattle.std.proofs.Common.{ap, arith}
use Rattle.std.specs.Prelude.{map}
use Rattle.schedule.specs.Acts.{latest, carry}
use Rattle.schedule.proofs.Starts.{latest_step}
use Rattle.schedule.proofs.decision.latest_end.Goals as goal

pub loop-decision-preserved : goal.loop-decision-preserved
loop-decision-preserved c =
    let s = latest_step c.args.decisions.now c.loop-decision.decision-index c.loop-decision.latest c.decision-item.result c.loop-decision-test.true c.decision-item.is in
    let i = c.loop-decision.invariant in
    let e = ap (λ l. latest (map carry l)) c.as_slice.ensures in
    omega arith
