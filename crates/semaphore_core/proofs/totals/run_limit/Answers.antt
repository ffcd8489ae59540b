-- A well-formed program takes each pair twice in a reaction, and without a limit its micro-steps are few.
use Rattle.std.proofs.Common.{length}
use Rattle.executive_program.specs.Sequences.{sequences}
use Rattle.semaphore_core.proofs.Counting.{counts_looks}
use Rattle.semaphore_core.proofs.totals.run_limit.Goals as goal

pub limit_fault-requires-clause-looks : goal.limit_fault-requires-clause-looks
limit_fault-requires-clause-looks c = counts_looks c.args.program.now c.args.flat.now (sequences c.args.archi.now) (length c.args.archi.now.media) c.requires.formed

pub total_steps-requires : goal.total_steps-requires
total_steps-requires c = counts_looks c.args.program.now c.args.flat.now (sequences c.args.archi.now) (length c.args.archi.now.media) c.requires.formed
