use Rattle.algo_check.proofs.Rounds.{one_count}
use Rattle.algo_check.proofs.counts.next_counts.Goals as goal

pub loop-place-preserved : goal.loop-place-preserved
loop-place-preserved c =
    let ds = c.args.defs.now in
    rw c.in_ok-push.ensures.items
    (one_count ds ds c.args.counts.now _ _ c.loop-place.place c.count_at.result c.index-defs-place.result c.loop-place-test.true c.index-defs-place.is c.count_at.ensures c.loop-place.invariant)
