-- The flat graph that stands for a flat list: the same operations by the same numbers, whose functions are bodies of
-- the graph.
use Rattle.std.specs.Prelude.{◌≡◌, ℕ, suc, List, [], ◌∷◌, map, Option, Some, None, true, slice_get, slice_index_or}
use Rattle.algo_tree.specs.Level.{Path}
use Rattle.algo_tree.specs.Tree as tree
use Rattle.algo_tree.specs.Meaning.{past, act_row}
use Rattle.flat_graph.specs.Expr.{Expr}
use Rattle.flat_graph.specs.declared.vertex.Kind.{Kind}
use Rattle.flat_graph.specs.declared.vertex.Kind.TheVariants.{
  Sensor,
  Actuator,
  Function,
  Constant,
  Get,
  Set,
  Explode,
  Implode,
  Merge,
}
use Rattle.flat_graph.specs.declared.vertex.Vertex.{Vertex}
use Rattle.flat_graph.specs.Graph.{Graph}
use Rattle.flat_graph.specs.Meaning.{level_source, level_guard, cell_of, initial_cells, cells_after, flat_act_row}
use Rattle.flat_laws.specs.Flat.{Operation, Task, runs, gets, sets, is_get}
use Rattle.flat_laws.specs.Names.{name_of}
use Rattle.syn_base.specs.Vectors.{Values, vector_at}

-- What an operation of this kind does, by the bodies of functions.
abbrev pub task_of : List (List Expr) → Kind → Task
task_of bodies (Sensor i) = runs (tree.sensor i)
task_of bodies (Actuator i) = runs (tree.actuator i)
task_of bodies (Function b) = runs (tree.function (slice_index_or bodies b []))
task_of bodies (Constant z) = runs (tree.constant z)
task_of bodies (Get z) = gets z
task_of bodies Set = sets
task_of bodies Explode = runs tree.explode
task_of bodies Implode = runs tree.implode
task_of bodies (Merge values) = runs (tree.merge values)

-- The operation that a vertex of a flat graph is, with this path, of this stage.
abbrev pub operation_at : List (List Expr) → Path → ℕ → Vertex → Operation
operation_at bodies path i x = record {
  path = path;
  stage = i;
  definition = x.def;
  ins = map level_source x.ins;
  guards = map level_guard x.guards;
  outs = x.outs;
  task = task_of bodies x.kind;
}

-- The twin of operation v: a set half stands right after its get half.
abbrev pub IsTwin : ℕ → Task → Option ℕ → Type 0
IsTwin v (gets z) twin = twin ≡ Some (suc v)
IsTwin v sets twin = (u : ℕ) × (v ≡ suc u) × (twin ≡ Some u)
IsTwin v (runs k) twin = twin ≡ None

-- Vertex x stands for operation op, of number v.
pub record StandsFor (bodies : List (List Expr)) (v : ℕ) (x : Vertex) (op : Operation) : Type 0 where
  pub same : op ≡ operation_at bodies op.path op.stage x
  pub name : x.name ≡ name_of op
  pub twin : IsTwin v op.task x.twin

-- Vertices that are numbered from v on, one for each operation.
abbrev pub AllStand : List (List Expr) → ℕ → List Vertex → List Operation → Type 0
AllStand bodies v [] [] = Unit {0}
AllStand bodies v [] (op ∷ ops) = ⊥
AllStand bodies v (x ∷ xs) [] = ⊥
AllStand bodies v (x ∷ xs) (op ∷ ops) = StandsFor bodies v x op × AllStand bodies (suc v) xs ops

-- The flat graph represents these operations: it has one vertex for each, in order, and no other.
abbrev pub Stands : Graph → List Operation → Type 0
Stands g ops = AllStand g.bodies 0 g.vertices ops

-- A flat graph of the same meaning as a tree. Over any rows of the sensors, from the initial values of the delays: in
-- each reaction the actuators take the same values in the same order, and after any number of reactions the cells of
-- the stages of each delay are the list that the tree keeps at its path.
pub record KeepsGraph (main : tree.Vertex) (g : Graph) (ops : List Operation) : Type 0 where
  pub taken : (rows : List Values) (k : ℕ) → flat_act_row g rows (initial_cells g.vertices) k ≡ act_row main rows k
  pub kept : (rows : List Values) (k v : ℕ) (op : Operation) → slice_get ops v ≡ Some op → is_get op.task ≡ true
      → vector_at (past main rows k op.path) op.stage ≡ cell_of g (cells_after g rows (initial_cells g.vertices) k) v
