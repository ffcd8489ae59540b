-- What loads and stores of a sequence do is the same on shared cells and rows and on its own.
use Rattle.std.proofs.Common.{◌≡◌, ℕ, Bool, cond, List, [], ◌∷◌, length, map, Option, Some, None, refl, sym, ap, subst, ◌∙◌, ℤ}
use Rattle.std.specs.Prelude.{slice_get, slice_index_or}
use Rattle.std.proofs.lemmas.List.{length-set, get_or-set_other}
use Rattle.executive_program.specs.Level.{element_at, all_joined}
use Rattle.executive_program.specs.declared.Kind.{Kind}
use Rattle.executive_program.specs.declared.Kind.TheVariants.{Sensor, Actuator, Function, Constant, Get, Set, Explode, Implode, Merge}
use Rattle.executive_program.specs.declared.Vertex.{Vertex}
use Rattle.executive_program.specs.Fire.{fired, kept as kept_cell}
use Rattle.executive_program.specs.Meaning.{sensed}
use Rattle.executive_program.specs.declared.steps.OnLoad.{OnLoad}
use Rattle.executive_program.specs.declared.steps.OnLoad.TheVariants.{Gather, Carry as CarryIn, Compute as ComputeIn}
use Rattle.executive_program.specs.declared.steps.OnStore.{OnStore}
use Rattle.executive_program.specs.declared.steps.OnStore.TheVariants.{Give, Carry as CarryOut, Compute as ComputeOut}
use Rattle.semaphore_core.specs.Operation.{vectors_from, lens_in, conditions_in, inputs_in, delay_of, cell_at, with_cell, rows_by}
use Rattle.semaphore_core.specs.Registers.{Own, with_registers, kept, gathered, compute_by, compute, absorb_by, emit_by, after_by}
use Rattle.semaphore_core.specs.Job.{JobData, zero_rows}
use Rattle.phase_laws.specs.Agrees.{IsFormed, caller, row_at, LoadsHere, StoresHere}
use Rattle.phase_laws.proofs.AgreeLists.{set_same, set_in_same, set_in_lens, get_in_there}
use Rattle.phase_laws.proofs.AgreeDelays.{same_delay, same_actuator}
use Rattle.syn_base.specs.Vectors.{Vector, Values, vector_at}

module _ (j : JobData) (f : IsFormed j) (cells : Values) (rows : List Values) (s : ℕ) where
  -- Of shared cells and rows before a step of sequence s: c is what it finds and leaves there, o what it has of its own.
  pub record IsOwn (c o : Own) : Type 0 where
    pub registers : c.registers ≡ o.registers
    pub cells_there : length c.cells ≡ length j.opening
    pub rows_there : map length c.rows ≡ map length (zero_rows j)
    pub own_cells_there : length o.cells ≡ length j.opening
    pub own_rows_there : map length o.rows ≡ map length (zero_rows j)
    pub cells_same : (v d : ℕ) (x : Vertex) → slice_get j.graph.vertices v ≡ Some x → delay_of j.graph v x ≡ Some d → caller j v ≡ s → vector_at c.cells d ≡ vector_at o.cells d
    pub cells_kept : (v d : ℕ) (x : Vertex) → slice_get j.graph.vertices v ≡ Some x → delay_of j.graph v x ≡ Some d → (caller j v ≡ s → ⊥) → vector_at c.cells d ≡ vector_at cells d
    pub rows_same : (v a k : ℕ) (x : Vertex) → slice_get j.graph.vertices v ≡ Some x → x.kind ≡ Actuator a → caller j v ≡ s → row_at c.rows k a ≡ row_at o.rows k a
    pub rows_kept : (v a k : ℕ) (x : Vertex) → slice_get j.graph.vertices v ≡ Some x → x.kind ≡ Actuator a → (caller j v ≡ s → ⊥) → row_at c.rows k a ≡ row_at rows k a

  -- other registers, the same on both sides
  with_same : (c o : Own) (r q : List ℤ) → IsOwn c o → r ≡ q → IsOwn (with_registers c r) (with_registers o q)
  with_same c o r q i e = record {
    registers = e;
    cells_there = i.cells_there;
    rows_there = i.rows_there;
    own_cells_there = i.own_cells_there;
    own_rows_there = i.own_rows_there;
    cells_same = i.cells_same;
    cells_kept = i.cells_kept;
    rows_same = i.rows_same;
    rows_kept = i.rows_kept;
  }

  kept_same : (more : Bool) (c o : Own) → IsOwn c o → IsOwn (kept more c) (kept more o)
  kept_same more c o i = with_same c o _ _ i (ap (λ (r : List ℤ). cond more r []) i.registers)

  -- the cell and the row of operation v, which s calls
  module _ (v : ℕ) (x : Vertex) (is : slice_get j.graph.vertices v ≡ Some x) (here : caller j v ≡ s) where
    cell_same : (c o : Own) → IsOwn c o → cell_at c.cells (delay_of j.graph v x) ≡ cell_at o.cells (delay_of j.graph v x)
    cell_same c o i = by (delay_of j.graph v x) refl
      where
        by : (d : Option ℕ) → delay_of j.graph v x ≡ d → cell_at c.cells d ≡ cell_at o.cells d
        by None e = refl
        by (Some d) e = i.cells_same v d x is e here

    -- cells after the operation wrote its own
    abbrev CellsAre : Values → Values → Type 0
    CellsAre c o = (length c ≡ length j.opening) × (length o ≡ length j.opening)
        × ((u d : ℕ) (y : Vertex) → slice_get j.graph.vertices u ≡ Some y → delay_of j.graph u y ≡ Some d → caller j u ≡ s → vector_at c d ≡ vector_at o d)
        × ((u d : ℕ) (y : Vertex) → slice_get j.graph.vertices u ≡ Some y → delay_of j.graph u y ≡ Some d → (caller j u ≡ s → ⊥) → vector_at c d ≡ vector_at cells d)

    cells_are : (c o : Own) → IsOwn c o → (z w : Vector) → z ≡ w → CellsAre (with_cell c.cells (delay_of j.graph v x) z) (with_cell o.cells (delay_of j.graph v x) w)
    cells_are c o i z w e = by (delay_of j.graph v x) refl
      where
        by : (d : Option ℕ) → delay_of j.graph v x ≡ d → CellsAre (with_cell c.cells d z) (with_cell o.cells d w)
        by None q = (i.cells_there, i.own_cells_there, i.cells_same, i.cells_kept)
        by (Some d) q = (
          length-set c.cells d z ∙ i.cells_there,
          length-set o.cells d w ∙ i.own_cells_there,
          (λ u n y uy un k. set_same c.cells o.cells d n z w [] (i.cells_there ∙ sym i.own_cells_there) e (i.cells_same u n y uy un k)),
          (λ u n y uy un k. get_or-set_other c.cells d n z [] (λ r. k (other u n y uy un r)) ∙ i.cells_kept u n y uy un k),
        )
          where
            other : (u n : ℕ) (y : Vertex) → slice_get j.graph.vertices u ≡ Some y → delay_of j.graph u y ≡ Some n → n ≡ d → caller j u ≡ s
            other u n y uy un r = same_delay j.program j.graph f.seqs j.media f.formed.0 f.formed.1 f.valid u v n y x uy is un (q ∙ ap (λ (k : ℕ). Some k) (sym r)) ∙ here

    abbrev RowsAre : List Values → List Values → Type 0
    RowsAre c o = (map length c ≡ map length (zero_rows j)) × (map length o ≡ map length (zero_rows j))
        × ((u a k : ℕ) (y : Vertex) → slice_get j.graph.vertices u ≡ Some y → y.kind ≡ Actuator a → caller j u ≡ s → row_at c k a ≡ row_at o k a)
        × ((u a k : ℕ) (y : Vertex) → slice_get j.graph.vertices u ≡ Some y → y.kind ≡ Actuator a → (caller j u ≡ s → ⊥) → row_at c k a ≡ row_at rows k a)

    rows_are : (c o : Own) → IsOwn c o → (k : ℕ) (z : Vector) → RowsAre (rows_by x.kind k z c.rows) (rows_by x.kind k z o.rows)
    rows_are c o i k z = by x.kind refl
      where
        same : RowsAre c.rows o.rows
        same = (i.rows_there, i.own_rows_there, i.rows_same, i.rows_kept)

        by : (q : Kind) → x.kind ≡ q → RowsAre (rows_by q k z c.rows) (rows_by q k z o.rows)
        by (Actuator a) q = (
          set_in_lens c.rows k a z ∙ i.rows_there,
          set_in_lens o.rows k a z ∙ i.own_rows_there,
          (λ u b n y uy ub h. set_in_same c.rows o.rows k a n b z z [] (i.rows_there ∙ sym i.own_rows_there) refl (i.rows_same u b n y uy ub h)),
          (λ u b n y uy ub h. get_in_there c.rows k a n b z [] (λ r. h (other u b y uy ub r.1)) ∙ i.rows_kept u b n y uy ub h),
        )
          where
            other : (u b : ℕ) (y : Vertex) → slice_get j.graph.vertices u ≡ Some y → y.kind ≡ Actuator b → b ≡ a → caller j u ≡ s
            other u b y uy ub r = ap (caller j) (same_actuator j.graph f.valid u v b y x uy is ub (q ∙ ap (λ (n : ℕ). Actuator n) (sym r))) ∙ here
        by (Sensor n) q = same
        by (Function b) q = same
        by (Constant w) q = same
        by (Get w) q = same
        by Set q = same
        by Explode q = same
        by Implode q = same
        by (Merge w) q = same

    -- the computation itself
    vertex_same : (k : ℕ) (r : List ℤ) (c o : Own) → IsOwn c o → IsOwn (compute_by j.graph j.sensors v k r c (Some x)) (compute_by j.graph j.sensors v k r o (Some x))
    vertex_same k r c o i = record {
      registers = ap (λ (z : Vector). all_joined (fired j.graph.bodies x z (sensed x.kind (slice_index_or j.sensors k [])) (conditions_in x V) (inputs_in x V))) cell;
      cells_there = a.0;
      rows_there = b.0;
      own_cells_there = a.1;
      own_rows_there = b.1;
      cells_same = a.2;
      cells_kept = a.3;
      rows_same = b.2;
      rows_kept = b.3;
    }
      where
        V : Values
        V = vectors_from r 0 (lens_in j.graph x)

        cell : cell_at c.cells (delay_of j.graph v x) ≡ cell_at o.cells (delay_of j.graph v x)
        cell = cell_same c o i

        a : CellsAre (with_cell c.cells (delay_of j.graph v x) (kept_cell x (cell_at c.cells (delay_of j.graph v x)) (conditions_in x V) (inputs_in x V)))
            (with_cell o.cells (delay_of j.graph v x) (kept_cell x (cell_at o.cells (delay_of j.graph v x)) (conditions_in x V) (inputs_in x V)))
        a = cells_are c o i _ _ (ap (λ (z : Vector). kept_cell x z (conditions_in x V) (inputs_in x V)) cell)

        b : RowsAre (rows_by x.kind k (vector_at (inputs_in x V) 0) c.rows) (rows_by x.kind k (vector_at (inputs_in x V) 0) o.rows)
        b = rows_are c o i k (vector_at (inputs_in x V) 0)

  compute_same : (v k : ℕ) (r q : List ℤ) (c o : Own) → caller j v ≡ s → r ≡ q → IsOwn c o → IsOwn (compute j.graph j.sensors v k r c) (compute j.graph j.sensors v k q o)
  compute_same v k r q c o here e i = subst (λ (l : List ℤ). IsOwn (compute j.graph j.sensors v k r c) (compute j.graph j.sensors v k l o)) e (by (slice_get j.graph.vertices v) refl)
    where
      by : (x : Option Vertex) → slice_get j.graph.vertices v ≡ x → IsOwn (compute_by j.graph j.sensors v k r c x) (compute_by j.graph j.sensors v k r o x)
      by None is = with_same c o [] [] i refl
      by (Some x) is = vertex_same v x is here k r c o i

  -- after a load
  pub absorb_same : (then : OnLoad) (k : ℕ) (c o : Own) (z : ℤ) → LoadsHere j.program j.media s then → IsOwn c o
      → IsOwn (absorb_by j.graph j.sensors then k c z) (absorb_by j.graph j.sensors then k o z)
  absorb_same CarryIn k c o z h i = with_same c o (z ∷ []) (z ∷ []) i refl
  absorb_same (Gather r) k c o z h i = with_same c o _ _ i (ap (λ (l : List ℤ). gathered l r z) i.registers)
  absorb_same (ComputeIn v r more) k c o z h i = kept_same more _ _ (compute_same v k (gathered c.registers r z) (gathered o.registers r z) c o h (ap (λ (l : List ℤ). gathered l r z) i.registers) i)

  -- what is stored, and after the store
  pub emit_same : (what : OnStore) (k : ℕ) (c o : Own) → StoresHere j.program j.media s what → IsOwn c o → emit_by j.graph j.sensors what k c ≡ emit_by j.graph j.sensors what k o
  emit_same CarryOut k c o h i = ap (λ (l : List ℤ). element_at l 0) i.registers
  emit_same (Give r more) k c o h i = ap (λ (l : List ℤ). element_at l r) i.registers
  emit_same (ComputeOut v more) k c o h i = ap (λ (l : List ℤ). element_at l 0) (compute_same v k [] [] c o h refl i).registers

  pub after_same : (what : OnStore) (k : ℕ) (c o : Own) → StoresHere j.program j.media s what → IsOwn c o → IsOwn (after_by j.graph j.sensors what k c) (after_by j.graph j.sensors what k o)
  after_same CarryOut k c o h i = with_same c o [] [] i refl
  after_same (Give r more) k c o h i = kept_same more c o i
  after_same (ComputeOut v more) k c o h i = kept_same more _ _ (compute_same v k [] [] c o h refl i)
