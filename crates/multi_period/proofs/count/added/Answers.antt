use Rattle.std.proofs.Common.{arith}
use Rattle.multi_period.proofs.Sums.{sum_on}
use Rattle.multi_period.proofs.count.added.Goals as goal

pub loop-mark-preserved : goal.loop-mark-preserved
loop-mark-preserved c = record {
  is = sum_on c.args.vertices.now c.args.marks.now c.loop-mark.mark-index (record { reference = 0; every = 0 }) c.index-vertices-mark.result c.loop-mark.sum c.added_by-sum.result c.loop-mark-test.true
      (c.requires c.loop-mark.mark-index (record { reference = 0; every = 0 }) c.loop-mark-test.true) c.index-vertices-mark.is c.added_by-sum.ensures.is c.loop-mark.invariant.is;
  small = omega (arith, c.added_by-sum.ensures.small, c.loop-mark.invariant.small);
}
