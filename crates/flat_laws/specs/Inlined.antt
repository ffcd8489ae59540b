-- From a tree without repetitions and cases to its operations. The operations of a graph are those of the vertices
-- inside it, in order, and a graph itself is none: a source that is an input or an output of a graph is followed to
-- the operation after it.
use Rattle.std.specs.Prelude.{
  ℕ,
  zero,
  suc,
  ◌+◌,
  List,
  [],
  ◌∷◌,
  ◌++◌,
  length,
  map,
  slice_index_or,
  slice_get,
  Option,
  Some,
  None,
}
use Rattle.algo_tree.specs.declared.Source.{Source}
use Rattle.algo_tree.specs.declared.Source.TheVariants.{Own, Of}
use Rattle.algo_tree.specs.declared.Guard.{Guard}
use Rattle.algo_tree.specs.Level.{Path}
use Rattle.algo_tree.specs.Tree.{Label, Kind, delay, graph, Vertex, vertex, Vertices, no_vertices, and_vertex}
use Rattle.algo_tree.specs.Meaning.{asked_by}
use Rattle.algo_tree.specs.Counted.{operations as count}
use Rattle.flat_laws.specs.Flat.{Operation, Task, runs, gets, sets}
use Rattle.syn_base.specs.Vectors.{Vector}

-- A source that is not there. A level without own inputs gives the empty vector for it, as for any port out of range.
abbrev pub nowhere : Source
nowhere = Own 0

-- The outputs of a vertex as sources of the flat list, from those at the inputs that it asks for.
pub record Wiring : Type 0 where
  pub asked : List Source
  pub gives : List Source → ℕ → Source

-- What f gives for the wiring, or the value a if there is none.
abbrev pub with_wiring : {A : Type 0} → Option Wiring → A → (Wiring → A) → A
with_wiring None a f = a
with_wiring (Some w) a f = f w

-- Where a source of a level leads, from where its own inputs and the outputs of its vertices lead.
abbrev pub wire_source : List Source → (ℕ → ℕ → Source) → Source → Source
wire_source own given (Own k) = slice_index_or own k nowhere
wire_source own given (Of r p) = given r p

-- Where output p of vertex r of a level leads, with this much fuel.
abbrev pub wire_out : List Wiring → List Source → ℕ → ℕ → ℕ → Source
wire_out ws own zero r p = nowhere
wire_out ws own (suc fuel) r p =
    with_wiring (slice_get ws r) nowhere (λ w. w.gives (map (wire_source own (wire_out ws own fuel)) w.asked) p)

-- A source of a level as a source of the flat list, with as much fuel as the level has vertices.
abbrev pub wire : List Wiring → List Source → Source → Source
wire ws own = wire_source own (wire_out ws own (length ws))

-- Output p of a vertex whose first operation has the number `first`. A graph passes on what its outputs are fed with.
abbrev pub gives_by : ℕ → Kind → (ℕ → List Wiring) → List Source → ℕ → Source
gives_by first (graph outs) inner own p = slice_index_or (map (wire (inner first) own) outs) p nowhere
gives_by first k inner own p = Of first p

abbrev mutual
  -- The outputs of a vertex whose first operation has the number `first`, as sources
  -- of the flat list.
  pub wiring : ℕ → Vertex → Wiring
  wiring first (vertex l us) =
      record { asked = asked_by l.kind l.ins; gives = gives_by first l.kind (λ c. wirings c us) }

  -- The vertices of a level, whose first operation has the number `first`.
  pub wirings : ℕ → Vertices → List Wiring
  wirings first no_vertices = []
  wirings first (and_vertex u us) = wiring first u ∷ wirings (first + count u) us

-- A guard whose source is replaced by the one to which w leads it.
abbrev pub wire_guard : (Source → Source) → Guard → Guard
wire_guard w g = record { source = w g.source; values = g.values; case = g.case }

-- An operation of a vertex, with these sources, where the sources of the guards of its level lead as w says.
abbrev pub operation_of : (Source → Source) → Path → ℕ → Label → List Source → List ℕ → Task → Operation
operation_of w path i l ins outs task = record {
  path = path;
  stage = i;
  definition = l.definition;
  ins = ins;
  guards = map (wire_guard w) l.guards;
  outs = outs;
  task = task;
}

-- What a stage takes, whose get half has the number `first`: the value of the stage after it, or the delay's input if
-- it is the last.
abbrev pub stage_input : ℕ → List Source → List Vector → List Source
stage_input first ins [] = ins
stage_input first ins (v ∷ vs) = Of (first + 2) 0 ∷ []

-- The stages of a delay from stage i on, each its get half and then its set half, of which the first has the number
-- `first`.
abbrev pub stages : (Source → Source) → ℕ → Path → Label → ℕ → List Vector → List Operation
stages w first path l i [] = []
stages w first path l i (v ∷ vs) =
    operation_of w path i l [] l.outs (gets v) ∷
    operation_of w path i l (stage_input first (map w l.ins) vs) [] sets ∷
    stages w (first + 2) path l (suc i) vs

-- The operations of a vertex, of which the first has the number `first`. `at` makes a path below its level one of the
-- whole, and `inner` are the operations of the level inside it.
abbrev pub inlined_by : (Source → Source) → ℕ → (Path → Path) → Label → Kind →
    (List Source → ℕ → (Path → Path) → List Operation) → List Operation
inlined_by w first at l (graph outs) inner = inner (map w l.ins) first (λ q. at (l.part ∷ q))
inlined_by w first at l (delay vs) inner = stages w first (at (l.part ∷ [])) l 0 vs
inlined_by w first at l k inner = operation_of w (at (l.part ∷ [])) 0 l (map w l.ins) l.outs (runs k) ∷ []

abbrev mutual
  -- The operations of a vertex, with all inside it; the first has the number `first`. The sources
  -- of its level lead as w says, and `at` makes a path below the level one of the whole.
  pub inlined : (Source → Source) → ℕ → (Path → Path) → Vertex → List Operation
  inlined w first at (vertex l us) =
      inlined_by w first at l l.kind (λ own c below. inlined_all (wire (wirings c us) own) c below us)

  -- The operations that the vertices of a level become, one vertex after another.
  pub inlined_all : (Source → Source) → ℕ → (Path → Path) → Vertices → List Operation
  inlined_all w first at no_vertices = []
  inlined_all w first at (and_vertex u us) = inlined w first at u ++ inlined_all w (first + count u) at us

-- The operations of a level, from where its own inputs lead.
abbrev pub inlined_level : List Source → ℕ → (Path → Path) → Vertices → List Operation
inlined_level own first at us = inlined_all (wire (wirings first us) own) first at us

-- The flat list of an algorithm without repetitions and cases.
abbrev pub operations : Vertex → List Operation
operations (vertex l us) = inlined_level [] 0 (λ q. q) us
