-- The resolved algorithm as plain data: a vertex, with the vertices inside it.
use Rattle.std.specs.Prelude.{ℕ, ℤ, List}
use Rattle.level_meaning.specs.declared.source.Source.{Source}
use Rattle.level_meaning.specs.declared.source.Guard.{Guard}
use Rattle.level_meaning.specs.declared.part.Part.{Part}
use Rattle.level_meaning.specs.declared.frontier.Feed.{Feed}
use Rattle.level_meaning.specs.declared.frontier.Give.{Give}
use Rattle.body_lang.specs.Expr.{Expr}

-- A delay has the list of its initial values, one for each reaction that it looks back.
-- A switch has the values of its cases and the names of its outputs.
pub data Kind : Type 0 where
  sensor : ℕ → Kind
  actuator : ℕ → Kind
  constant : List ℤ → Kind
  delay : List (List ℤ) → Kind
  function : List Expr → Kind
  explode : Kind
  implode : Kind
  merge : List ℤ → Kind
  graph : List Source → Kind
  switch : List ℤ → List (List ℕ) → Kind
  repeat : ℕ → List Feed → List Give → Kind

-- What is said of a vertex beside what is inside it. Its outputs have names, or none where a pass of flattening makes
-- the vertex.
pub record Label : Type 0 where
  pub part : Part
  pub definition : List ℕ
  pub ins : List Source
  pub guards : List Guard
  pub outs : List ℕ
  pub names : List (List ℕ)
  pub kind : Kind

mutual
  -- A vertex of the tree: its label, and the vertices inside it.
  pub data Vertex : Type 0 where
    vertex : Label → Vertices → Vertex

  -- The vertices inside one, in order; they are numbered from 0.
  pub data Vertices : Type 0 where
    no_vertices : Vertices
    and_vertex : Vertex → Vertices → Vertices
