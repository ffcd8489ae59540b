use Rattle.std.proofs.Common.{arith, length}
use Rattle.self_timed.specs.Table.{entry_in}
use Rattle.lower_bound.specs.Bound.{work_only}
use Rattle.lower_bound.proofs.Sums.{greatest_more}
use Rattle.lower_bound.proofs.work.greatest_work.Goals as goal

pub loop-operator-preserved : goal.loop-operator-preserved
loop-operator-preserved c =
    let d = c.args.durations.now in
    let e = greatest_more (work_only d.operators (entry_in d) (length d.rows)) c.loop-operator.operator in
    let so_far = c.loop-operator.invariant in
    let here = c.work_only.ensures in
    let is = c.max-greatest.ensures in
    omega arith
