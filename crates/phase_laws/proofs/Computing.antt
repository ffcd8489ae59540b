-- What the computation of an operation makes of the values of its sources.
use Rattle.std.proofs.Common.{◌≡◌, ℕ, suc, ◌<◌, ◌⊎◌, List, [], ◌∷◌, ◌++◌, length, map, take, drop, Option, Some, refl, sym, ap, inl, inr, ◌∙◌, ℤ}
use Rattle.std.specs.Prelude.{slice_get, slice_index_or, if◌then◌else◌}
use Rattle.std.proofs.lemmas.List.{set-get_or}
use Rattle.executive_program.specs.Expr.{Expr}
use Rattle.executive_program.specs.Level.{all_joined}
use Rattle.executive_program.specs.declared.Source.{Source}
use Rattle.executive_program.specs.declared.Guard.{Guard}
use Rattle.executive_program.specs.declared.Kind.{Kind}
use Rattle.executive_program.specs.declared.Kind.TheVariants.{Sensor, Actuator, Function, Constant, Get, Set, Explode, Implode, Merge}
use Rattle.executive_program.specs.declared.Vertex.{Vertex}
use Rattle.executive_program.specs.Graph.{Graph, with_vertex}
use Rattle.executive_program.specs.Fire.{fired, kept, stored, guards_hold, kind_outputs}
use Rattle.executive_program.specs.Meaning.{sensed, delay_number, cell_of, value_in, conditions, inputs, reads, cells_after, flat_outputs}
use Rattle.executive_program.proofs.Settled.{fixed_point}
use Rattle.executive_program.proofs.Fired.{is_kept, first_reads, last_reads}
use Rattle.semaphore_core.specs.Operation.{conditions_in, inputs_in, vectors_from, lens_in, delay_of, delay_by, cell_at, with_cell, rows_by, outputs_of, cells_left, rows_left}
use Rattle.semaphore_core.specs.Job.{JobData, reactions}
use Rattle.semaphore_core.specs.Told.{source_value, buffer_value}
use Rattle.phase_laws.specs.Values.{IsSupplied}
use Rattle.phase_laws.proofs.Lengths.{Carry, carried_values, carried_sized, called_lens}
use Rattle.phase_laws.proofs.Joined.{vectors_back}
use Rattle.syn_base.specs.Vectors.{Vector, Values, vector_at, zeros}

cell_unused : (bodies : List (List Expr)) (k : Kind) (outs : List ℕ) (c d seen : Vector) (ins : Values)
    → ((z : List ℤ) → k ≡ Get z → c ≡ d) → kind_outputs bodies k outs c seen ins ≡ kind_outputs bodies k outs d seen ins
cell_unused bodies (Sensor i) outs c d seen ins h = refl
cell_unused bodies (Actuator i) outs c d seen ins h = refl
cell_unused bodies (Function b) outs c d seen ins h = refl
cell_unused bodies (Constant x) outs c d seen ins h = refl
cell_unused bodies (Get x) outs c d seen ins h = ap (λ (y : Vector). y ∷ []) (h x refl)
cell_unused bodies Set outs c d seen ins h = refl
cell_unused bodies Explode outs c d seen ins h = refl
cell_unused bodies Implode outs c d seen ins h = refl
cell_unused bodies (Merge values) outs c d seen ins h = refl

first_values : (f : Source → Vector) (ds : List Guard) (xs : List Source) → take (length ds) (map f (map (λ d. d.source) ds ++ xs)) ≡ map (λ d. f d.source) ds
first_values f [] xs = refl
first_values f (d ∷ ds) xs = ap (λ (vs : Values). f d.source ∷ vs) (first_values f ds xs)

last_values : (f : Source → Vector) (ds : List Guard) (xs : List Source) → drop (length ds) (map f (map (λ d. d.source) ds ++ xs)) ≡ map f xs
last_values f [] xs = refl
last_values f (d ∷ ds) xs = last_values f ds xs

module _ (j : JobData) (h : IsSupplied j) (k v : ℕ) (x : Vertex) (low : k < reactions j) (is : slice_get j.graph.vertices v ≡ Some x) where
  abbrev Cells : Values
  Cells = cells_after j.graph j.sensors j.opening k

  abbrev Row : Values
  Row = slice_index_or j.sensors k []

  abbrev pub look : Source → Vector
  look = value_in j.graph (cells_after j.graph j.sensors j.opening k) (slice_index_or j.sensors k [])

  -- what was loaded are the values of the sources
  module _ (ins : List ℕ) (carry : Carry j h ins (map (λ d. d.source) x.guards ++ x.ins)) (loaded : List ℤ) (all : loaded ≡ all_joined (map (λ b. buffer_value j b k) ins)) where
    read_is : vectors_from loaded 0 (lens_in j.graph x) ≡ map (λ s. source_value j s k) (map (λ d. d.source) x.guards ++ x.ins)
    read_is = ap (λ (l : List ℤ). vectors_from l 0 (lens_in j.graph x)) all
        ∙ vectors_back (map (λ b. buffer_value j b k) ins) (lens_in j.graph x)
        (sym (called_lens j h v x ins is carry) ∙ sym (carried_sized j h k ins (map (λ d. d.source) x.guards ++ x.ins) low carry))
        ∙ carried_values j h k ins (map (λ d. d.source) x.guards ++ x.ins) carry

    pub conditions_are : conditions_in x (vectors_from loaded 0 (lens_in j.graph x)) ≡ conditions look x
    conditions_are = ap (take (length x.guards)) read_is ∙ first_values (λ s. source_value j s k) x.guards x.ins

    pub inputs_are : inputs_in x (vectors_from loaded 0 (lens_in j.graph x)) ≡ inputs look x
    inputs_are = ap (drop (length x.guards)) read_is ∙ last_values (λ s. source_value j s k) x.guards x.ins

    -- the outputs are the flat ones, where a get half finds its cell
    pub outputs_are : (cells : Values) → ((z : List ℤ) → x.kind ≡ Get z → vector_at cells (delay_number j.graph.vertices v) ≡ cell_of j.graph (cells_after j.graph j.sensors j.opening k) v)
        → outputs_of j.graph v x (vectors_from loaded 0 (lens_in j.graph x)) cells (slice_index_or j.sensors k []) ≡ flat_outputs j.graph j.sensors j.opening v k
    outputs_are cells cell = (λ i. fired j.graph.bodies x (cell_at cells (delay_of j.graph v x)) (sensed x.kind Row) (conditions_are i) (inputs_are i))
        ∙ ap (λ (os : Values). if guards_hold x.guards (conditions look x) then os else map zeros x.outs)
        (cell_unused j.graph.bodies x.kind x.outs (cell_at cells (delay_of j.graph v x)) (cell_of j.graph Cells v) (sensed x.kind Row) (inputs look x)
        (λ z e. ap (λ (q : Kind). cell_at cells (delay_by j.graph.vertices v q x.twin)) e ∙ cell z e))
        ∙ sym (fixed_point j.graph Cells Row h.valid v x is)

    -- an actuator takes its input
    pub rows_are : (rows : List Values) → rows_left j.graph x k (vectors_from loaded 0 (lens_in j.graph x)) rows ≡ rows_by x.kind k (vector_at (inputs look x) 0) rows
    rows_are rows = ap (λ (vs : Values). rows_by x.kind k (vector_at vs 0) rows) inputs_are

    -- a set half keeps the next cell of its delay
    pub kept_is : (u : ℕ) (y : Vertex) (z : List ℤ) → slice_get j.graph.vertices u ≡ Some y → y.kind ≡ Get z → y.twin ≡ Some v
        → (cell : Vector) → cell ≡ cell_of j.graph (cells_after j.graph j.sensors j.opening k) u
        → kept x cell (conditions_in x (vectors_from loaded 0 (lens_in j.graph x)))
        (inputs_in x (vectors_from loaded 0 (lens_in j.graph x))) ≡ cell_of j.graph (cells_after j.graph j.sensors j.opening (suc k)) u
    kept_is u y z e q t cell c = (λ i. kept x (c i) (conditions_are i) (inputs_are i))
        ∙ (λ i. kept x (cell_of j.graph Cells u) (sym (last_reads look x) i) (sym (first_reads look x) i))
        ∙ sym (ap (λ (o : Option Vertex). with_vertex o (cell_of j.graph Cells u) (λ w. kept w (cell_of j.graph Cells u) (drop (length w.ins) (reads look x)) (take (length w.ins) (reads look x)))) is)
        ∙ sym (is_kept j.graph Cells Row u v y x z e q t is)

-- other operations than set halves leave the cells
pub cells_other : (g : Graph) (v : ℕ) (x : Vertex) (vs cells : Values) → (x.kind ≡ Set → ⊥) → cells_left g v x vs cells ≡ cells
cells_other g v x vs cells n = by x.kind n
  where
    by : (k : Kind) → (k ≡ Set → ⊥)
        → with_cell cells (delay_by g.vertices v k x.twin)
        (stored k (guards_hold x.guards (conditions_in x vs)) (cell_at cells (delay_by g.vertices v k x.twin)) (vector_at (inputs_in x vs) 0)) ≡ cells
    by (Sensor i) m = refl
    by (Actuator i) m = refl
    by (Function b) m = refl
    by (Constant z) m = refl
    by (Get z) m = set-get_or cells (delay_number g.vertices v) []
    by Set m = absurd (m refl)
    by Explode m = refl
    by Implode m = refl
    by (Merge z) m = refl

-- other operations than actuators leave the rows
pub rows_other : (kind : Kind) (k : ℕ) (z : Vector) (rows : List Values) → ((a : ℕ) → kind ≡ Actuator a → ⊥) → rows_by kind k z rows ≡ rows
rows_other (Sensor i) k z rows n = refl
rows_other (Actuator i) k z rows n = absurd (n i refl)
rows_other (Function b) k z rows n = refl
rows_other (Constant c) k z rows n = refl
rows_other (Get c) k z rows n = refl
rows_other Set k z rows n = refl
rows_other Explode k z rows n = refl
rows_other Implode k z rows n = refl
rows_other (Merge c) k z rows n = refl

pub set_or : (k : Kind) → (k ≡ Set) ⊎ (k ≡ Set → ⊥)
set_or (Sensor i) = inr (λ e. cc)
set_or (Actuator i) = inr (λ e. cc)
set_or (Function i) = inr (λ e. cc)
set_or (Constant i) = inr (λ e. cc)
set_or (Get i) = inr (λ e. cc)
set_or Set = inl refl
set_or Explode = inr (λ e. cc)
set_or Implode = inr (λ e. cc)
set_or (Merge i) = inr (λ e. cc)

pub actuator_or : (k : Kind) → ((i : ℕ) × (k ≡ Actuator i)) ⊎ ((i : ℕ) → k ≡ Actuator i → ⊥)
actuator_or (Sensor i) = inr (λ j e. cc)
actuator_or (Actuator i) = inl (i, refl)
actuator_or (Function i) = inr (λ j e. cc)
actuator_or (Constant i) = inr (λ j e. cc)
actuator_or (Get i) = inr (λ j e. cc)
actuator_or Set = inr (λ j e. cc)
actuator_or Explode = inr (λ j e. cc)
actuator_or Implode = inr (λ j e. cc)
actuator_or (Merge i) = inr (λ j e. cc)
