use Rattle.std.proofs.Common.{arith, ap, map}
use Rattle.self_timed.specs.declared.Transfer.{Transfer}
use Rattle.self_timed.specs.Acts.{carry, is_over}
use Rattle.lower_bound.specs.Numbers.{busy}
use Rattle.lower_bound.proofs.Steps.{over_step}
use Rattle.lower_bound.proofs.loads.busy_over.Goals as goal
use Rattle.std.specs.Prelude.{List}

pub carried_over-busy-requires : goal.carried_over-busy-requires
carried_over-busy-requires c =
    let s = over_step c.args.medium c.args.decisions.now c.loop-decision.decision-index c.decision-item.result c.loop-decision-test.true c.decision-item.is in
    let so_far = c.loop-decision.invariant in
    let e = ap (λ (ts : List Transfer). busy (is_over c.args.medium) (map carry ts)) c.as_slice.ensures in
    let most = c.requires in
    omega arith

pub overflow_add-busy : goal.overflow_add-busy
overflow_add-busy c =
    let s = over_step c.args.medium c.args.decisions.now c.loop-decision.decision-index c.decision-item.result c.loop-decision-test.true c.decision-item.is in
    let so_far = c.loop-decision.invariant in
    let e = ap (λ (ts : List Transfer). busy (is_over c.args.medium) (map carry ts)) c.as_slice.ensures in
    let here = c.carried_over-busy.ensures in
    let most = c.requires in
    record { fits = omega arith }

pub loop-decision-preserved : goal.loop-decision-preserved
loop-decision-preserved c =
    let s = over_step c.args.medium c.args.decisions.now c.loop-decision.decision-index c.decision-item.result c.loop-decision-test.true c.decision-item.is in
    let so_far = c.loop-decision.invariant in
    let e = ap (λ (ts : List Transfer). busy (is_over c.args.medium) (map carry ts)) c.as_slice.ensures in
    let here = c.carried_over-busy.ensures in
    omega arith
