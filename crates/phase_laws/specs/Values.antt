-- Each sequence by itself computes the flat values.
use Rattle.std.specs.Prelude.{◌≡◌, ℕ, ◌<◌, true, List, [], map, length, slice_index_or}
use Rattle.executive_program.specs.Sound.{AreValues}
use Rattle.executive_program.specs.FlatValid.{is_flat}
use Rattle.executive_program.specs.Meaning.{initial_cells}
use Rattle.executive_program.specs.FlatLaws.{sensor_lens}
use Rattle.executive_program.specs.declared.Seq.{Seq}
use Rattle.executive_program.specs.WellFormed.{IsOrder}
use Rattle.semaphore_core.specs.Job.{JobData, reactions, system}
use Rattle.semaphore_core.specs.Told.{stored_value, own_after}

-- A job whose program has a serial order, whose flat graph is valid, whose delays open
-- with a vector of the right length each, and whose rows have the sensors' vectors.
pub record IsSupplied (j : JobData) : Type 0 where
  pub seqs : List Seq
  pub order : List ℕ
  pub formed : IsOrder j.program j.graph seqs j.media order
  pub valid : is_flat j.graph ≡ true
  pub opened : map length j.opening ≡ map length (initial_cells j.graph.vertices)
  pub sensed : (k : ℕ) → k < reactions j → map length (slice_index_or j.sensors k []) ≡ sensor_lens j.graph.vertices

-- if each load finds the value of its own round, each store stores the
-- flat value, and what a sequence has of its own is as it is told
abbrev pub SequencesComputeTheirValues : Type 0
SequencesComputeTheirValues = (j : JobData) → IsSupplied j → AreValues (system j) (stored_value j) (own_after j)
