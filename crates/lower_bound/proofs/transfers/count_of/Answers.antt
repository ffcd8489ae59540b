use Rattle.std.proofs.Common.{ap, arith, length}
use Rattle.std.specs.List.{count_by}
use Rattle.lower_bound.specs.Transfers.{carries, is_sort}
use Rattle.lower_bound.proofs.Counting.{all_step, fewer, no_more, sort_step}
use Rattle.lower_bound.proofs.transfers.count_of.Goals as goal
use Rattle.self_timed.specs.Acts.{transfers_of}

pub count_in-count-requires : goal.count_in-count-requires
count_in-count-requires c =
    let s = all_step c.args.decisions.now c.loop-decision.decision-index c.decision-item.result c.loop-decision-test.true c.decision-item.is in
    let left = fewer c.args.decisions.now c.loop-decision.decision-index in
    let same = ap length c.as_slice.ensures in
    let most = c.requires in
    omega arith

pub overflow_add-count : goal.overflow_add-count
overflow_add-count c =
    let test = carries (is_sort c.args.sort) c.args.vertices.now in
    let s = sort_step test c.args.decisions.now c.loop-decision.decision-index c.decision-item.result c.loop-decision-test.true c.decision-item.is in
    let so_far = c.loop-decision.invariant in
    let here = c.count_in-count.ensures in
    let same = ap (count_by test) c.as_slice.ensures in
    let least = no_more test (transfers_of c.args.decisions.now) in
    let most = c.requires in
    record { fits = omega arith }

pub loop-decision-preserved : goal.loop-decision-preserved
loop-decision-preserved c =
    let test = carries (is_sort c.args.sort) c.args.vertices.now in
    let s = sort_step test c.args.decisions.now c.loop-decision.decision-index c.decision-item.result c.loop-decision-test.true c.decision-item.is in
    let so_far = c.loop-decision.invariant in
    let here = c.count_in-count.ensures in
    let same = ap (count_by test) c.as_slice.ensures in
    omega arith
