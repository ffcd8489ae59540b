-- The program of a job on a valid architecture has few sequences.
use Rattle.std.proofs.Common.{◌≤◌, List, length, ap, arith}
use Rattle.std.specs.Prelude.{IsTrue}
use Rattle.std.proofs.lemmas.List.{length-map}
use Rattle.executive_program.specs.declared.Seq.{Seq}
use Rattle.executive_program.specs.Archi.{Architecture, is_archi}
use Rattle.executive_program.specs.Sequences.{sequences}
use Rattle.executive_program.proofs.Few.{few}
use Rattle.executive_program.specs.declared.program.SeqCode.{SeqCode}
use Rattle.semaphore_core.specs.Job.{JobData}
use Rattle.semaphore_core.specs.IsJob.{IsJobOn}

-- of the architecture that the job stands on
pub few_sequences : (a : Architecture) (j : JobData) → IsJobOn a j → IsTrue (is_archi a.operators a.media) → length j.program.seqs ≤ 272
few_sequences a j job valid = let e = few a valid in let l = ap (λ (xs : List Seq). length xs) job.0.formed.1.sequences in let n = length-map j.program.seqs (λ (q : SeqCode). q.seq) in omega arith
