-- What operations do to the store of a flat graph in a reaction.
use Rattle.std.specs.Prelude.{
  ◌≡◌,
  ◌≢◌,
  ℕ,
  ◌+◌,
  ◌<◌,
  ◌≤◌,
  ◌⊎◌,
  ℤ,
  List,
  [],
  ◌∷◌,
  Some,
  Bool,
  true,
  false,
  length,
  map,
  sum,
  slice_get,
}
use Rattle.syn_base.specs.Vectors.{Vector, Values, vector_at}
use Rattle.flat_graph.specs.Expr.{Expr, value_of, vector_of}
use Rattle.flat_graph.specs.declared.vertex.Kind.TheVariants.{Get}
use Rattle.flat_graph.specs.declared.vertex.Vertex.{Vertex}
use Rattle.flat_graph.specs.Graph.{Graph}
use Rattle.flat_graph.specs.Valid.{fits}
use Rattle.flat_graph.specs.Level.{all_joined}
use Rattle.flat_graph.specs.Fire.{of_vertex, guards_hold, fired, kind_outputs, kind_seen_len}
use Rattle.flat_graph.specs.Meaning.{conditions, inputs}
use Rattle.expression_code.specs.Code.{word, words, size}
use Rattle.expression_code.specs.Compiled.{AreBelow, Carries, span_at}
use Rattle.expression_code.specs.declared.step.Span.{Span}
use Rattle.graph_code.specs.declared.operation.Output.{Output}
use Rattle.graph_code.specs.declared.operation.Operation.{Operation}
use Rattle.graph_code.specs.Places.{outputs_at, value_at, width_of}
use Rattle.graph_code.specs.Compiled.{IsOutput, HasCode}

-- How many inputs operation v has.
abbrev pub input_count : Graph → ℕ → ℕ
input_count g v = of_vertex g v 0 (λ x. length x.ins)

-- The value at input k of operation v.
abbrev pub input_at : Graph → ℕ → ℕ → List ℤ → Vector
input_at g v k store = of_vertex g v [] (λ x. vector_at (inputs (value_at g.vertices store) x) k)

-- The guards of operation v hold.
abbrev pub is_active : Graph → ℕ → List ℤ → Bool
is_active g v store = of_vertex g v false (λ x. guards_hold x.guards (conditions (value_at g.vertices store) x))

-- If operation v is the get half of a delay, this vector has the length of its cell.
abbrev pub CellFits : Graph → ℕ → Vector → Type 0
CellFits g v cell =
    (x : Vertex) → slice_get g.vertices v ≡ Some x → (z : Vector) → x.kind ≡ Get z → length cell ≡ length z

-- Operation v gives in the new store what it makes of its cell, of what it senses and of what its sources
-- give in the old one, and all others give what they gave.
pub record HasFired (g : Graph) (v : ℕ) (cell seen : Vector) (old new : List ℤ) : Type 0 where
  pub len : length new ≡ length old
  pub here : (x : Vertex) → slice_get g.vertices v ≡ Some x
      → outputs_at g.vertices new v
      ≡ fired g.bodies x cell seen (conditions (value_at g.vertices old) x) (inputs (value_at g.vertices old) x)
  pub others : (u : ℕ) → u ≢ v → outputs_at g.vertices new u ≡ outputs_at g.vertices old u

-- A row is written into a store from a place on, and all other words below a width stay.
pub record IsPut (width start : ℕ) (row : Vector) (old new : List ℤ) : Type 0 where
  pub len : length new ≡ length old
  pub here : (j : ℕ) → j < length row → word new (start + j) ≡ word row j
  pub before : (k : ℕ) → k < start → word new k ≡ word old k
  pub after : (k : ℕ) → start + length row ≤ k → k < width → word new k ≡ word old k

-- The words of some spans of a store, in order.
abbrev pub rows_of : List ℤ → List Span → Values
rows_of store spans = map (λ s. words store s.start s.len) spans

-- None of these spans has a word in common with the words from a place on, of which there are so many.
abbrev pub AreApart : ℕ → ℕ → List Span → Type 0
AreApart start len spans = (k : ℕ) → k < length spans →
    ((span_at spans k).start + (span_at spans k).len ≤ start) ⊎ (start + len ≤ (span_at spans k).start)

-- The code of an output can run in a store of this length.
pub record CanRun (room : ℕ) (o : Output) : Type 0 where
  pub code : size o.code ≤ room
  pub at : o.at + o.to.len ≤ size o.code
  pub to : o.to.start + o.to.len ≤ room

-- The output's values have been put in their place, whatever expression over whatever ports its code was
-- compiled for.
pub record HasPut (o : Output) (old new : List ℤ) : Type 0 where
  pub len : length new ≡ length old
  pub put : (ports : List Span) (width room : ℕ) (to : Span) (e : Expr) (ins : Values)
      → IsOutput ports width room to e o → AreBelow width ports → Carries ports ins old
      → to.start + to.len ≤ width → width ≤ length old
      → IsPut width to.start (vector_of to.len (value_of e ins)) old new

-- So have those of these outputs, one after another.
abbrev pub HavePut : List Output → List ℤ → List ℤ → Type 0
HavePut [] old new = new ≡ old
HavePut (o ∷ os) old new = (mid : List ℤ) × HasPut o old mid × HavePut os mid new

-- The outputs of an active operation one after another, from its cell, what it senses and its inputs.
abbrev pub joined_outputs : Graph → Vertex → Operation → Vector → Vector → List ℤ → Vector
joined_outputs g x o cell seen store =
    all_joined (kind_outputs g.bodies x.kind x.outs cell seen (rows_of store o.inputs.items))

-- An operation of a graph may be fired in a store: its form is right, its inputs and outputs stand in the
-- store, and it reads none of its own outputs.
pub record IsReady (g : Graph) (x : Vertex) (o : Operation) (cell seen : Vector) (store : List ℤ) : Type 0 where
  pub form : fits g.bodies x.kind (map length (rows_of store o.inputs.items)) x.outs ≡ true
  pub cell_len : (z : Vector) → x.kind ≡ Get z → length cell ≡ length z
  pub seen_len : length seen ≡ kind_seen_len x.kind x.outs
  pub to_len : o.to.len ≡ sum x.outs
  pub to_fits : o.to.start + o.to.len ≤ width_of g.vertices
  pub fits : width_of g.vertices ≤ length store
  pub below : AreBelow (width_of g.vertices) o.inputs.items
  pub apart : AreApart o.to.start o.to.len o.inputs.items
  pub code : HasCode g (length store) x x.kind o.inputs.items o.to.start o.outputs.items
