-- What operations keep stays of its length: they can be computed again.
use Rattle.std.proofs.Common.{◌≡◌, ℕ, ◌<◌, ◌≤◌, ◌⊎◌, inl, inr, List, [], ◌∷◌, length, Option, Some, None, refl, sym, ap, subst, arith, ◌∙◌, ℤ}
use Rattle.std.specs.Prelude.{slice_get, slice_set}
use Rattle.std.proofs.lemmas.List.{length-set, get_or-set_same, get_or-set_other, get_or_past}
use Rattle.std.proofs.lemmas.Bool.{cases_eq, cases_lt}
use Rattle.executive_program.specs.declared.Vertex.{Vertex}
use Rattle.executive_program.specs.declared.Kind.{Kind}
use Rattle.executive_program.specs.declared.Kind.TheVariants.{Sensor, Actuator, Function, Constant, Get, Set, Explode, Implode, Merge}
use Rattle.executive_program.specs.Fire.{cell_len, kept}
use Rattle.executive_program.specs.declared.steps.OnLoad.{OnLoad}
use Rattle.executive_program.specs.declared.steps.OnLoad.TheVariants.{Gather, Carry as CarryIn, Compute as ComputeIn}
use Rattle.executive_program.specs.declared.steps.OnStore.{OnStore}
use Rattle.executive_program.specs.declared.steps.OnStore.TheVariants.{Give, Carry as CarryOut, Compute as ComputeOut}
use Rattle.operation_desks.specs.Operation.{vectors_from, lens_in, conditions_in, inputs_in, delay_of, HasCell, cell_at, with_cell, rows_by}
use Rattle.operation_desks.specs.Registers.{Own, compute_by, absorb_by, after_by, gathered, with_registers}
use Rattle.operation_desks.specs.Desk.{DeskLens}
use Rattle.semaphore_core.specs.Job.{JobData}
use Rattle.semaphore_core.specs.Parts.{Kept, with_kept}
use Rattle.semaphore_core.specs.Held.{AreReady, IsLaid, LoadIsLaid, StoreIsLaid}
use Rattle.semaphore_core.proofs.Operate.{cell_fits, kept_len}
use Rattle.syn_base.specs.Vectors.{Vector, Values, vector_at}

pub has_cell : (j : JobData) (k : Kept) → AreReady j k → (v : ℕ) (x : Vertex) → slice_get j.graph.vertices v ≡ Some x → HasCell k.cells (delay_of j.graph v x) (cell_len j.graph v)
has_cell j k r v x is = by (delay_of j.graph v x) refl
  where
    by : (o : Option ℕ) → delay_of j.graph v x ≡ o → HasCell k.cells o (cell_len j.graph v)
    by None e = r.no_cell v x is e
    by (Some c) e = r.cells_fit v x c is e

-- a cell of the same length takes the place of another
cells_count : (cells : Values) (o : Option ℕ) (z : Vector) → length (with_cell cells o z) ≡ length cells
cells_count cells None z = refl
cells_count cells (Some d) z = length-set cells d z

cell_long : (cells : Values) (o : Option ℕ) (z : Vector) → length z ≡ length (cell_at cells o) → (c : ℕ) → length (vector_at (with_cell cells o z) c) ≡ length (vector_at cells c)
cell_long cells None z h c = refl
cell_long cells (Some d) z h c = by (cases_eq c d) (cases_lt c (length cells))
  where
    by : (c ≡ d) ⊎ (c ≡ d → ⊥) → (c < length cells) ⊎ (length cells ≤ c) → length (vector_at (slice_set cells d z) c) ≡ length (vector_at cells c)
    by (inr n) p = ap (λ (v : Vector). length v) (get_or-set_other cells d c z [] n)
    by (inl e) (inl l) = subst (λ (u : ℕ). length z ≡ length (vector_at cells u) → length (vector_at (slice_set cells u z) c)
        ≡ length (vector_at cells c)) e (λ q. ap (λ (v : Vector). length v) (get_or-set_same cells c z [] l) ∙ q) h
    by (inl e) (inr l) = ap (λ (v : Vector). length v) (get_or_past (slice_set cells d z) c [] (let q = length-set cells d z in omega arith) ∙ sym (get_or_past cells c [] l))

rows_count : (q : Kind) (n : ℕ) (z : Vector) (rows : List Values) → length (rows_by q n z rows) ≡ length rows
rows_count (Actuator a) n z rows = length-set rows n _
rows_count (Sensor i) n z rows = refl
rows_count (Function f) n z rows = refl
rows_count (Constant c) n z rows = refl
rows_count (Get c) n z rows = refl
rows_count Set n z rows = refl
rows_count Explode n z rows = refl
rows_count Implode n z rows = refl
rows_count (Merge c) n z rows = refl

module _ (j : JobData) (k : Kept) where
  same_lens : (c o : Own) → length o.cells ≡ length c.cells → ((d : ℕ) → length (vector_at o.cells d) ≡ length (vector_at c.cells d))
      → length o.rows ≡ length c.rows → AreReady j (with_kept k c) → AreReady j (with_kept k o)
  same_lens c o n l m r = record {
    valid = r.valid;
    desks_there = r.desks_there;
    cells_fit = λ v x d is e. (let f = (r.cells_fit v x d is e).0 in omega arith, l d ∙ (r.cells_fit v x d is e).1);
    no_cell = r.no_cell;
    rows_there = m ∙ r.rows_there;
    sensor_fits = r.sensor_fits;
  }

  compute_ready : (v n : ℕ) (regs : List ℤ) (c : Own) (o : Option Vertex) → slice_get j.graph.vertices v ≡ o → AreReady j (with_kept k c)
      → AreReady j (with_kept k (compute_by j.graph j.sensors v n regs c o))
  compute_ready v n regs c None is r = same_lens c (with_registers c []) refl (λ d. refl) refl r
  compute_ready v n regs c (Some x) is r = same_lens c (compute_by j.graph j.sensors v n regs c (Some x)) (cells_count c.cells D K)
      (cell_long c.cells D K (kept_len j.graph r.valid v x is regs (cell_at c.cells D)
      (cell_fits c.cells D (cell_len j.graph v) (has_cell j (with_kept k c) r v x is)))) (rows_count x.kind n (vector_at (inputs_in x V) 0) c.rows) r
    where
      V : Values
      V = vectors_from regs 0 (lens_in j.graph x)

      D : Option ℕ
      D = delay_of j.graph v x

      K : Vector
      K = kept x (cell_at c.cells D) (conditions_in x V) (inputs_in x V)

  pub absorb_ready : (then : OnLoad) (n : ℕ) (c : Own) (z : ℤ) → AreReady j (with_kept k c) → AreReady j (with_kept k (absorb_by j.graph j.sensors then n c z))
  absorb_ready CarryIn n c z r = same_lens c (with_registers c (z ∷ [])) refl (λ d. refl) refl r
  absorb_ready (Gather g) n c z r = same_lens c (with_registers c (gathered c.registers g z)) refl (λ d. refl) refl r
  absorb_ready (ComputeIn v g more) n c z r = let o = compute_by j.graph j.sensors v n (gathered c.registers g z) c (slice_get j.graph.vertices v) in
      same_lens o (absorb_by j.graph j.sensors (ComputeIn v g more) n c z) refl (λ d. refl) refl (compute_ready v n (gathered c.registers g z) c (slice_get j.graph.vertices v) refl r)

  pub after_ready : (what : OnStore) (n : ℕ) (c : Own) → AreReady j (with_kept k c) → AreReady j (with_kept k (after_by j.graph j.sensors what n c))
  after_ready CarryOut n c r = same_lens c (with_registers c []) refl (λ d. refl) refl r
  after_ready (Give g more) n c r = same_lens c (after_by j.graph j.sensors (Give g more) n c) refl (λ d. refl) refl r
  after_ready (ComputeOut v more) n c r = let o = compute_by j.graph j.sensors v n [] c (slice_get j.graph.vertices v) in
      same_lens o (after_by j.graph j.sensors (ComputeOut v more) n c) refl (λ d. refl) refl (compute_ready v n [] c (slice_get j.graph.vertices v) refl r)

-- where all operations are laid out, so is what any load and any store computes
pub load_is_laid : (j : JobData) (lens : List ℕ) (desks : List (Option DeskLens)) → ((v : ℕ) → IsLaid j lens desks v) → (then : OnLoad) → LoadIsLaid j lens desks then
load_is_laid j lens desks h CarryIn = tt
load_is_laid j lens desks h (Gather r) = tt
load_is_laid j lens desks h (ComputeIn v r more) = h v

pub store_is_laid : (j : JobData) (lens : List ℕ) (desks : List (Option DeskLens)) → ((v : ℕ) → IsLaid j lens desks v) → (what : OnStore) → StoreIsLaid j lens desks what
store_is_laid j lens desks h CarryOut = tt
store_is_laid j lens desks h (Give r more) = tt
store_is_laid j lens desks h (ComputeOut v more) = h v
