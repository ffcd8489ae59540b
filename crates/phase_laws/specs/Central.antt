-- The central theorem: the laws of every run of a job.
use Rattle.std.specs.Prelude.{◌≡◌, ℕ, ◌<◌, true, List, Some, slice_get}
use Rattle.executive_program.specs.FlatValid.{is_flat}
use Rattle.executive_program.specs.declared.Vertex.{Vertex}
use Rattle.executive_program.specs.declared.Kind.TheVariants.{Actuator}
use Rattle.executive_program.specs.Meaning.{flat_act}
use Rattle.semaphore_core.specs.Job.{JobData, reactions}
use Rattle.semaphore_core.specs.Core.{run, IsDone}
use Rattle.phase_laws.specs.Agrees.{row_at}
use Rattle.semaphore_core.specs.IsJob.{IsJob}
use Rattle.semaphore_core.specs.Laws.{HasLaws}
use Rattle.phase_laws.specs.Values.{IsSupplied}
use Rattle.syn_base.specs.Vectors.{Values}

-- In every interleaving each state is what its counts tell, no load finds an element of another round than its
-- own, some sequence is enabled until all is done, and one more step of an enabled sequence goes on.
abbrev pub JobsHaveLaws : Type 0
JobsHaveLaws = (j : JobData) → IsSupplied j → HasLaws j

-- every job on a valid graph is supplied
abbrev pub JobsAreSupplied : Type 0
JobsAreSupplied = (j : JobData) → IsJob j → is_flat j.graph ≡ true → IsSupplied j

-- each actuator has taken, in each reaction, what it takes in the flat graph
abbrev pub AllTaken : JobData → List Values → Type 0
AllTaken j rows = (v a k : ℕ) (x : Vertex) → slice_get j.graph.vertices v ≡ Some x → x.kind ≡ Actuator a →
    k < reactions j → row_at rows k a ≡ flat_act j.graph j.sensors j.opening a k

-- all rows are taken when all is done
abbrev pub RowsAreTaken : Type 0
RowsAreTaken = (j : JobData) → IsSupplied j → (list : List ℕ) → IsDone j (run j list) → AllTaken j (run j list).rows
