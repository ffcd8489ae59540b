-- A flat graph as a table of its operations.
use Rattle.std.specs.Prelude.{◌≡◌, ℕ, List, [], map, slice_index_or}
use Rattle.algo_tree.specs.Tree as tree
use Rattle.flat_graph.specs.Expr.{Expr}
use Rattle.flat_graph.specs.declared.vertex.Source.{Source}
use Rattle.flat_graph.specs.declared.vertex.Guard.{Guard}
use Rattle.flat_graph.specs.declared.vertex.Vertex.{Vertex}
use Rattle.flat_graph.specs.Graph.{Graph}
use Rattle.flat_laws.specs.Stands.{task_of}
use Rattle.flat_laws.specs.Origins.{Origin}
use Rattle.flat_laws.specs.Table.{Condition, Row, table}

-- The names of the operations, in order.
abbrev pub names_of : List Vertex → List (List ℕ)
names_of xs = map (λ x. x.name) xs

-- A source, where the operations have these names in order. In a valid flat graph no two have the same name, so that a
-- name says which operation it is.
abbrev pub source_origin : List (List ℕ) → Source → Origin
source_origin names s = record { name = slice_index_or names s.vertex []; output = s.port }

-- A guard as a condition, if the operations have these names in order.
abbrev pub guard_condition : List (List ℕ) → Guard → Condition
guard_condition names g = record { source = source_origin names g.source; values = g.values; case = g.case }

-- An operation of a flat graph as a row of the table, if the operations have these names in order,
-- and the functions these bodies.
abbrev pub vertex_row : List (List ℕ) → List (List Expr) → Vertex → Row
vertex_row names bodies x = record {
  name = x.name;
  definition = x.def;
  ins = map (source_origin names) x.ins;
  conditions = map (guard_condition names) x.guards;
  outs = x.outs;
  task = task_of bodies x.kind;
}

-- The operations of a flat graph as rows of the table, in order.
abbrev pub flat_rows : Graph → List Row
flat_rows g = map (vertex_row (names_of g.vertices) g.bodies) g.vertices

-- The flat graph has the operations of the tree and no others, in order: with these names, definitions, kinds and
-- lengths of outputs; each reads the outputs of the operations that the tree says, and has a guard for each case around
-- it, outer first, by the value that conditions the switch, and no other guard.
abbrev pub HasOperations : tree.Vertex → Graph → Type 0
HasOperations main g = flat_rows g ≡ table main
