use Rattle.std.proofs.Common.{◌+◌, ◌*◌, ap, arith, sym, ◌∙◌}
use Rattle.std.specs.Prelude.{slice_index_or}
use Rattle.schedule.specs.FlatOrder.{depends_on}
use Rattle.comm_routing.specs.Placing.{ticks_in}
use Rattle.comm_routing.proofs.Sites.{vertex_at}
use Rattle.pressure_heuristic.proofs.Rounds.{so_far_step}
use Rattle.pressure_heuristic.proofs.Running.{dates_low}
use Rattle.pressure_heuristic.proofs.tails.raise_all.Goals as goal

pub loop-op-preserved : goal.loop-op-preserved
loop-op-preserved c =
    let i = c.loop-op.op in
    let size = c.loop-op.invariant.size in
    let before = c.requires.low i in
    let least = c.least.ensures.bounded in
    let date = c.least.result + slice_index_or c.args.before.now i 0 in
    record {
      size = c.raise.ensures.size ∙ size;
      low = dates_low c.loop-op.dates c.raise.new.dates (depends_on c.index-vertices-op.result) date
          (1000000000 * (c.args.round + 1)) c.raise.ensures.size c.raise.ensures.raised c.loop-op.invariant.low (omega arith);
      past = λ v l.
          so_far_step c.args.vertices.now c.args.durations.now
          (λ s. slice_index_or c.args.before.now s 0) i v c.index-vertices-op.result date (slice_index_or c.loop-op.dates v 0)
          (slice_index_or c.raise.new.dates v 0)
          (vertex_at c.args.vertices.now i c.index-vertices-op.result c.loop-op-test.true c.index-vertices-op.is)
          (ap (λ n. n + slice_index_or c.args.before.now i 0) (sym (ap ticks_in c.least.ensures.entry))) (c.loop-op.invariant.past v l) (c.raise.ensures.raised v (omega arith));
    }
