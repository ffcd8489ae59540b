-- A valid architecture has few sequences.
use Rattle.std.proofs.Common.{◌≤◌, List, length, arith, rules, ap}
use Rattle.executive_program.specs.declared.program.SeqCode.{SeqCode}
use Rattle.semaphore_core.specs.IsJob.{job_of}
use Rattle.semaphore_core.proofs.FewSequences.{few_sequences}
use Rattle.semaphore_core.proofs.job.Job.sequences.Goals as goal

pub overflow_cast-result : goal.overflow_cast-result
overflow_cast-result c =
    let s = c.self.inside in
    let few : length s.program.now.seqs ≤ 272 = few_sequences s.archi.now (job_of s.program.now s.flat.now s.archi.now s.rows.now s.opening) c.self.invariant c.operators.ensures.valid in
    let same = ap (λ (l : List SeqCode). length l) c.as_slice.ensures in
    let low : length c.as_slice.result.now ≤ 272 = omega arith in
    search rules
