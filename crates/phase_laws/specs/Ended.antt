-- The cells and rows of a run, so far and when all is done.
use Rattle.std.specs.Prelude.{◌≡◌, ℕ, ◌<◌, cond, nat_lt, List, map, length, Some, slice_get, slice_index_or}
use Rattle.std.specs.List.{range_with_len}
use Rattle.executive_program.specs.declared.Vertex.{Vertex}
use Rattle.executive_program.specs.declared.Kind.TheVariants.{Actuator}
use Rattle.executive_program.specs.Graph.{lens_of}
use Rattle.executive_program.specs.Meaning.{cells_after, flat_act, flat_act_row}
use Rattle.semaphore_core.specs.Job.{JobData, reactions}
use Rattle.semaphore_core.specs.Core.{Core, run, count, full, IsDone}
use Rattle.semaphore_core.specs.Told.{done_in, told}
use Rattle.phase_laws.specs.Agrees.{row_at}
use Rattle.phase_laws.specs.Values.{IsSupplied}
use Rattle.syn_base.specs.Vectors.{Values, zeros}

module _ (j : JobData) where
  -- the cells after all reactions, and what the actuators take in each
  abbrev pub last_cells : Values
  last_cells = cells_after j.graph j.sensors j.opening (reactions j)

  -- These are the vectors that the actuators take in each reaction, by the meaning of
  -- the flat graph.
  abbrev pub all_acts : List Values
  all_acts = map (flat_act_row j.graph j.sensors j.opening) (range_with_len 0 (reactions j))

  -- How many micro-steps each sequence makes in all, by the number of the sequence.
  abbrev pub full_counts : List ℕ
  full_counts = map (full j) (range_with_len 0 (length j.program.seqs))

  -- when all is done
  pub record HasEnded (z : Core) : Type 0 where
    pub cells : z.cells ≡ last_cells
    pub rows : z.rows ≡ all_acts

  -- Row k of an actuator is what it takes in reaction k, where its
  -- operation was computed more than k times, and zeros elsewhere.
  abbrev pub RowsSoFar : Core → Type 0
  RowsSoFar z = (v a k : ℕ) (x : Vertex) → slice_get j.graph.vertices v ≡ Some x → x.kind ≡ Actuator a →
      k < reactions j → row_at z.rows k a ≡
      cond (nat_lt k (done_in j (count z) v)) (flat_act j.graph j.sensors j.opening a k)
      (zeros (slice_index_or (lens_of j.graph.vertices x.ins) 0 0))

-- in every interleaving
abbrev pub RunsEnd : Type 0
RunsEnd = (j : JobData) → IsSupplied j → (list : List ℕ) → IsDone j (run j list) → HasEnded j (run j list)

-- In every run, also before its end, the rows have what the actuators take in the
-- reactions in which they were computed, and zeros in all others.
abbrev pub RunsTakeRows : Type 0
RunsTakeRows = (j : JobData) → IsSupplied j → (list : List ℕ) → RowsSoFar j (run j list)

-- what full counts tell
abbrev pub FullIsEnded : Type 0
FullIsEnded = (j : JobData) → IsSupplied j → HasEnded j (told j (full_counts j))
