-- The parts put together: every job that is supplied has the laws of its runs.
use Rattle.std.proofs.Common.{◌≡◌, ℕ, ◌<◌, [], map, length, true, subst, ◌∙◌}
use Rattle.std.specs.Prelude.{slice_index_or}
use Rattle.executive_program.specs.Graph.{Graph}
use Rattle.executive_program.specs.FlatValid.{is_flat}
use Rattle.executive_program.specs.FlatLaws.{sensor_lens}
use Rattle.semaphore_core.specs.IsJob.{IsJob}
use Rattle.phase_laws.specs.Central.{JobsAreSupplied}
use Rattle.semaphore_core.specs.Job.{JobData, reactions}
use Rattle.semaphore_core.specs.Laws.{HasLaws}
use Rattle.phase_laws.specs.Agrees.{IsFormed}
use Rattle.phase_laws.specs.Values.{IsSupplied}
use Rattle.phase_laws.specs.Discipline.{discipline}
use Rattle.phase_laws.proofs.Programs.{are_disciplined}
use Rattle.phase_laws.proofs.OwnValues.{compute_their_values}
use Rattle.phase_laws.proofs.AgreeLaws.{laws_follow, jobs_are_formed}

-- a job that is formed, and whose rows have the sensors' vectors, is supplied
pub supplied : (j : JobData) → IsFormed j → ((k : ℕ) → k < reactions j → map length (slice_index_or j.sensors k []) ≡ sensor_lens j.graph.vertices) → IsSupplied j
supplied j f s = record { seqs = f.seqs; order = f.formed.0; formed = f.formed.1; valid = f.valid; opened = f.opened; sensed = s }

pub have_laws : (j : JobData) → IsSupplied j → HasLaws j
have_laws j h = let d = are_disciplined j h.seqs h.order h.formed in
    laws_follow j (record { seqs = h.seqs; formed = (h.order, h.formed); valid = h.valid; opened = h.opened })
    (discipline j.program h.order) (record { synchronized = d.0; ordered = d.1; values = compute_their_values j h })

pub jobs_are_supplied : JobsAreSupplied
jobs_are_supplied j job valid = supplied j (jobs_are_formed j job valid) (λ k h. job.1.1.1 k h ∙ job.1.0.sensed)

-- a job as a value of the code
pub job_has_laws : (j : JobData) → IsJob j → (g : Graph) → g ≡ j.graph → is_flat g ≡ true → HasLaws j
job_has_laws j job g same valid = have_laws j (jobs_are_supplied j job (subst (λ (x : Graph). is_flat x ≡ true) same valid))
