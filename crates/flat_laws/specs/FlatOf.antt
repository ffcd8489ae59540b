-- The flat graph of an algorithm, as a function of its tree. Each function operation has a body of its own, in order.
use Rattle.std.specs.Prelude.{ℕ, suc, ◌-◌, ◌+◌, List, [], ◌∷◌, ◌++◌, map, length, Option, Some, None}
use Rattle.algo_tree.specs.declared.Source as of_level
use Rattle.algo_tree.specs.declared.Source.TheVariants.{Own, Of}
use Rattle.algo_tree.specs.declared.Guard as guard_of_level
use Rattle.algo_tree.specs.Tree as tree
use Rattle.flat_graph.specs.Expr.{Expr}
use Rattle.flat_graph.specs.declared.vertex.Source.{Source}
use Rattle.flat_graph.specs.declared.vertex.Guard.{Guard}
use Rattle.flat_graph.specs.declared.vertex.Kind.{Kind}
use Rattle.flat_graph.specs.declared.vertex.Kind.TheVariants.{
  Sensor,
  Actuator,
  Function,
  Constant,
  Get,
  Set,
  Explode,
  Implode,
  Merge,
}
use Rattle.flat_graph.specs.declared.vertex.Vertex.{Vertex}
use Rattle.flat_graph.specs.Graph.{Graph}
use Rattle.flat_laws.specs.Guarded.{guard}
use Rattle.flat_laws.specs.Unrolled.{unroll}
use Rattle.flat_laws.specs.Flat.{Operation, Task, runs, gets, sets}
use Rattle.flat_laws.specs.Inlined.{operations}
use Rattle.flat_laws.specs.Names.{name_of}

-- A source is an output of an operation: none leads nowhere.
abbrev pub flat_source : of_level.Source → Source
flat_source (Of r p) = record { vertex = r; port = p }
flat_source (Own k) = record { vertex = 0; port = 0 }

-- A guard of the flat list as a guard of the flat graph.
abbrev pub flat_guard : guard_of_level.Guard → Guard
flat_guard g = record { source = flat_source g.source; values = g.values; case = g.case }

-- What an operation is, where the next body has the number `body`: graphs, switches and repetitions are none.
abbrev pub kind_of : ℕ → tree.Kind → Kind
kind_of body (tree.sensor i) = Sensor i
kind_of body (tree.actuator i) = Actuator i
kind_of body (tree.function es) = Function body
kind_of body (tree.constant z) = Constant z
kind_of body tree.explode = Explode
kind_of body tree.implode = Implode
kind_of body (tree.merge values) = Merge values
kind_of body _ = Set

-- The kind of an operation with this task, if the next body has the number `body`.
abbrev pub flat_kind : ℕ → Task → Kind
flat_kind body (runs k) = kind_of body k
flat_kind body (gets v) = Get v
flat_kind body sets = Set

-- The other half of the delay, if operation v has the task of a half, and none otherwise. A set
-- half comes right after its get half.
abbrev pub twin_of : ℕ → Task → Option ℕ
twin_of v (runs k) = None
twin_of v (gets z) = Some (suc v)
twin_of v sets = Some (v - 1)

-- A list that holds the body of a function, or nothing for any other kind.
abbrev pub kind_body : tree.Kind → List (List Expr)
kind_body (tree.function es) = es ∷ []
kind_body _ = []

-- The body that an operation brings.
abbrev pub body_of : Task → List (List Expr)
body_of (runs k) = kind_body k
body_of (gets v) = []
body_of sets = []

-- Operation v, where the next body has the number `body`.
abbrev pub vertex_of : ℕ → ℕ → Operation → Vertex
vertex_of v body op = record {
  name = name_of op;
  def = op.definition;
  kind = flat_kind body op.task;
  guards = map flat_guard op.guards;
  ins = map flat_source op.ins;
  outs = op.outs;
  twin = twin_of v op.task;
}

-- Operations that are numbered from v on, and their bodies from `body` on.
abbrev pub vertices_from : ℕ → ℕ → List Operation → List Vertex
vertices_from v body [] = []
vertices_from v body (op ∷ ops) = vertex_of v body op ∷ vertices_from (suc v) (body + length (body_of op.task)) ops

-- The bodies of the functions among these operations, one for each, in order.
abbrev pub bodies_of : List Operation → List (List Expr)
bodies_of [] = []
bodies_of (op ∷ ops) = body_of op.task ++ bodies_of ops

-- The flat graph of these operations, which are numbered from 0 in their order.
abbrev pub graph_of : List Operation → Graph
graph_of ops = record { vertices = vertices_from 0 0 ops; bodies = bodies_of ops }

-- Repetitions are unrolled, cases are put under guards, and graphs are inlined.
abbrev pub flat_of : tree.Vertex → Graph
flat_of main = graph_of (operations (guard (unroll main)))
