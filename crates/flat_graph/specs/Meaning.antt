-- What the operations give in each reaction: the meaning of one level, whose nodes are the operations.
use Rattle.std.specs.Prelude.{
  ℕ,
  zero,
  suc,
  ◌+◌,
  Bool,
  true,
  false,
  if◌then◌else◌,
  List,
  [],
  ◌∷◌,
  ◌++◌,
  map,
  length,
  drop,
  Option,
  None,
  Some,
  slice_get,
  slice_index_or,
}
use Rattle.body_lang.specs.Expr.{Expr}
use Rattle.level_meaning.specs.declared.part.Part.TheVariants.{Numbered}
use Rattle.level_meaning.specs.declared.source.Source.TheVariants.{Of}
use Rattle.level_meaning.specs.declared.source.Source as of_level
use Rattle.level_meaning.specs.declared.source.Guard as guard_of_level
use Rattle.level_meaning.specs.Level.{State, Node, out, level_value}
use Rattle.flat_graph.specs.declared.vertex.Source.{Source}
use Rattle.flat_graph.specs.declared.vertex.Guard.{Guard}
use Rattle.flat_graph.specs.declared.vertex.Kind.{Kind}
use Rattle.flat_graph.specs.declared.vertex.Kind.TheVariants.{Sensor, Actuator, Get}
use Rattle.flat_graph.specs.declared.vertex.Vertex.{Vertex}
use Rattle.flat_graph.specs.Graph.{Graph, with_vertex}
use Rattle.flat_graph.specs.Fire.{kind_outputs, kept}
use Rattle.syn_base.specs.Vectors.{Vector, Values, vector_at}

-- A source of a flat graph as a source of a level.
abbrev pub level_source : Source → of_level.Source
level_source s = Of s.vertex s.port

-- A guard of a flat graph as a guard of a level.
abbrev pub level_guard : Guard → guard_of_level.Guard
level_guard g = record { source = level_source g.source; values = g.values; case = g.case }

-- A sensor's vector of the row.
abbrev pub sensed : Kind → Values → Vector
sensed (Sensor i) row = vector_at row i
sensed _ row = []

-- The kind is that of a get half.
abbrev pub is_get : Kind → Bool
is_get (Get z) = true
is_get _ = false

-- The number of get halves before operation v, which for a get half is the number of its delay.
abbrev pub delay_number : List Vertex → ℕ → ℕ
delay_number [] v = 0
delay_number (x ∷ xs) zero = 0
delay_number (x ∷ xs) (suc v) = if is_get x.kind then delay_number xs v + 1 else delay_number xs v

-- A level keeps nothing for operations: each delay has its cell beside it.
abbrev pub no_state : State
no_state q = []

-- An operation as a node of a level, with this cell.
abbrev pub node_of : List (List Expr) → Vector → Vertex → Node
node_of bodies cell x = record {
  part = Numbered 0;
  ins = map level_source x.ins;
  asked = map level_source x.ins;
  guards = map level_guard x.guards;
  outs = x.outs;
  does = record {
    outputs = λ row st ins. kind_outputs bodies x.kind x.outs cell (sensed x.kind row) ins;
    next = λ row st ins. st;
    initial = no_state;
  };
}

-- Cells are those of the delays, by number.
module _ (g : Graph) (cells : Values) where
  -- The cell of the delay whose get half is operation v; it says nothing of any other operation.
  abbrev pub cell_of : ℕ → Vector
  cell_of v = vector_at cells (delay_number g.vertices v)

  -- Operations that are numbered from v on.
  abbrev pub nodes_from : ℕ → List Vertex → List Node
  nodes_from v [] = []
  nodes_from v (x ∷ xs) = node_of g.bodies (cell_of v) x ∷ nodes_from (suc v) xs

  -- The operations, in order, as the nodes of one level.
  abbrev pub level : List Node
  level = nodes_from 0 g.vertices

  -- The outputs of an operation in a reaction with this row of the sensors.
  abbrev pub outputs_in : Values → ℕ → Values
  outputs_in row v = out level row no_state [] (length level) v

  -- The value of a source.
  abbrev pub value_in : Values → Source → Vector
  value_in row s = level_value level row no_state [] (level_source s)

-- The values of the sources of an operation's guards, in order.
abbrev pub conditions : (Source → Vector) → Vertex → Values
conditions look x = map (λ g. look g.source) x.guards

-- The values of the sources of an operation's inputs, in order.
abbrev pub inputs : (Source → Vector) → Vertex → Values
inputs look x = map look x.ins

-- All that an operation reads: the values of its inputs, and then of its guards' sources.
abbrev pub reads : (Source → Vector) → Vertex → Values
reads look x = inputs look x ++ conditions look x

-- The cell of a delay after a reaction, by the set half that is its get half's twin.
abbrev pub next_cell : List Vertex → (Source → Vector) → Option ℕ → Vector → Vector
next_cell vertices look None cell = cell
next_cell vertices look (Some t) cell =
    with_vertex (slice_get vertices t) cell (λ y. kept y cell (conditions look y) (inputs look y))

-- The cells after a reaction of the delays whose get halves are among these operations, in order,
-- from the cells that they had before it.
abbrev pub next_from : List Vertex → (Source → Vector) → List Vertex → Values → Values
next_from vertices look [] cells = []
next_from vertices look (x ∷ xs) cells =
    if is_get x.kind
    then next_cell vertices look x.twin (vector_at cells 0) ∷ next_from vertices look xs (drop 1 cells)
    else next_from vertices look xs cells

-- The cells of the delays after a reaction with this row of the sensors, from those before it.
abbrev pub next_cells : Graph → Values → Values → Values
next_cells g cells row = next_from g.vertices (value_in g cells row) g.vertices cells

-- A list that holds the initial value of a get half, or nothing for any other kind.
abbrev pub initial_cell : Kind → Values
initial_cell (Get z) = z ∷ []
initial_cell _ = []

-- The initial values of the delays.
abbrev pub initial_cells : List Vertex → Values
initial_cells [] = []
initial_cells (x ∷ xs) = initial_cell x.kind ++ initial_cells xs

-- What an actuator takes.
abbrev pub taken_by : (Source → Vector) → Vertex → Kind → Values
taken_by look x (Actuator i) = vector_at (inputs look x) 0 ∷ []
taken_by look x _ = []

-- What the actuators among these operations take, in order.
abbrev pub taken : (Source → Vector) → List Vertex → Values
taken look [] = []
taken look (x ∷ xs) = taken_by look x x.kind ++ taken look xs

-- A run over these rows of the sensors, from opening cells.
module _ (g : Graph) (rows : List Values) (opening : Values) where
  -- The vectors of the sensors in reaction k; none past the last row.
  abbrev pub row_of : ℕ → Values
  row_of k = slice_index_or rows k []

  -- The cells of the delays after k reactions.
  abbrev pub cells_after : ℕ → Values
  cells_after zero = opening
  cells_after (suc k) = next_cells g (cells_after k) (row_of k)

  -- The outputs of operation v in reaction k.
  abbrev pub flat_outputs : ℕ → ℕ → Values
  flat_outputs v k = outputs_in g (cells_after k) (row_of k) v

  -- Output p of operation v in reaction k.
  abbrev pub flat_val : ℕ → ℕ → ℕ → Vector
  flat_val v p k = vector_at (flat_outputs v k) p

  -- What the actuators take in reaction k, in order.
  abbrev pub flat_act_row : ℕ → Values
  flat_act_row k = taken (value_in g (cells_after k) (row_of k)) g.vertices

  -- The value at the input of actuator a in reaction k.
  abbrev pub flat_act : ℕ → ℕ → Vector
  flat_act a k = vector_at (flat_act_row k) a
