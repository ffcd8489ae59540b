-- One more entry is one more step.
use Rattle.std.proofs.Common.{◌∙◌}
use Rattle.semaphore_core.proofs.Runs.{one_more}
use Rattle.semaphore_core.proofs.state.run_list.Goals as goal

pub loop-seq-preserved : goal.loop-seq-preserved
loop-seq-preserved c = record {
  runs = c.try_named.ensures.state ∙ one_more c.args.job.now c.loop-seq.state c.args.state.now c.args.list.now c.loop-seq.seq-index c.loop-seq-test.true c.loop-seq.invariant.runs;
  opened = c.try_named.ensures.opened;
}
