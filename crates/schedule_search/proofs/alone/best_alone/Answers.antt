use Rattle.std.proofs.Common.{arith}
use Rattle.schedule_search.specs.Drafts.{site_task}
use Rattle.schedule_search.proofs.Measures.{low_next}
use Rattle.schedule_search.proofs.alone.best_alone.Goals as goal

pub loop-operator-preserved : goal.loop-operator-preserved
loop-operator-preserved c =
    let before = c.loop-operator.invariant in
    let less = c.in_ok-best.ensures.first in
    let first = before.first in
    record {
      measured = c.in_ok-best.ensures.measured;
      first = omega arith;
      alone = low_next (site_task c.args.site.now) c.args.goal c.loop-operator.operator c.loop-operator.best.measure c.in_ok-best.best.measure less before.alone c.in_ok-best.ensures.alone;
    }
