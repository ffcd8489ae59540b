-- A job's program takes each pair twice in a reaction, and its micro-steps are few.
use Rattle.std.proofs.Common.{length}
use Rattle.executive_program.specs.Sequences.{sequences}
use Rattle.semaphore_core.proofs.Counting.{counts_looks}
use Rattle.semaphore_core.proofs.job.Job.total_steps.Goals as goal

pub total_steps-requires : goal.total_steps-requires
total_steps-requires c = let s = c.self.inside in counts_looks s.program.now s.flat.now (sequences s.archi.now) (length s.archi.now.media) c.self.invariant.0.formed
