-- The plain data that a declared vertex stands for.
use Rattle.std.specs.Prelude.{List, [], ◌∷◌, map}
use Rattle.algo_tree.specs.declared.vertex.Kind.{Kind}
use Rattle.algo_tree.specs.declared.vertex.Kind.TheVariants.{
  Sensor,
  Actuator,
  Constant,
  Delay,
  Function,
  Explode,
  Implode,
  Merge,
  Graph,
  Switch,
  Repeat,
}
use Rattle.algo_tree.specs.declared.vertex.Vertex.{Vertex, fold-Vertex}
use Rattle.algo_tree.specs.declared.vertex.Vertex.TheOpen.{Vertex-F}
use Rattle.algo_tree.specs.Tree as plain

-- The plain data of a kind.
abbrev pub kind_view : Kind → plain.Kind
kind_view (Sensor n) = plain.sensor n
kind_view (Actuator n) = plain.actuator n
kind_view (Constant v) = plain.constant v
kind_view (Delay groups) = plain.delay groups
kind_view (Function b) = plain.function b
kind_view Explode = plain.explode
kind_view Implode = plain.implode
kind_view (Merge values) = plain.merge values
kind_view (Graph outs) = plain.graph outs
kind_view (Switch values names) = plain.switch values names
kind_view (Repeat n feeds gives) = plain.repeat n feeds gives

-- A list of vertices, in order, as the vertices inside one.
abbrev pub vertices_of : List plain.Vertex → plain.Vertices
vertices_of [] = plain.no_vertices
vertices_of (u ∷ us) = plain.and_vertex u (vertices_of us)

-- What is said of a vertex beside what is inside it.
abbrev pub label_view : {A : Type 0} → Vertex-F A → plain.Label
label_view u = record {
  part = u.part;
  definition = u.definition;
  ins = u.ins;
  guards = u.guards;
  outs = u.outs;
  names = u.names;
  kind = kind_view u.kind;
}

-- One level, with each vertex inside already seen as its data.
abbrev pub view_step : Vertex-F plain.Vertex → plain.Vertex
view_step u = plain.vertex (label_view u) (vertices_of u.inner.items)

-- The plain data of a vertex, with all that is inside it.
abbrev pub view : Vertex → plain.Vertex
view = fold-Vertex plain.Vertex view_step

-- Several, as the vertices inside one.
abbrev pub vertices_view : List Vertex → plain.Vertices
vertices_view us = vertices_of (map view us)
