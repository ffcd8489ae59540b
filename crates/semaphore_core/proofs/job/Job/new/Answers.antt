-- A well-formed program takes each pair twice in a reaction.
use Rattle.std.proofs.Common.{length}
use Rattle.executive_program.specs.Sequences.{sequences}
use Rattle.semaphore_core.proofs.Counting.{counts_looks}
use Rattle.semaphore_core.proofs.job.Job.new.Goals as goal

pub limit_fault-requires-clause-looks : goal.limit_fault-requires-clause-looks
limit_fault-requires-clause-looks c = counts_looks c.args.program.now c.args.flat.now (sequences c.args.archi.now) (length c.args.archi.now.media) c.requires.formed
