-- A vertex that no guard is put on and that is taken from none.
use Rattle.std.specs.Prelude.{◌≡◌, List, []}
use Rattle.algo_tree.specs.declared.vertex.Kind.{Kind}
use Rattle.algo_tree.specs.declared.vertex.Kind.TheVariants.{Graph, Switch}
use Rattle.algo_tree.specs.declared.vertex.Vertex.{Vertex}
use Rattle.algo_tree.specs.declared.vertex.Vertex.TheOpen.{Vertex-F}

-- A graph, whatever is inside it, or an operation, which has nothing inside.
abbrev pub IsGraphOrOperation : Kind → List Vertex → Type 0
IsGraphOrOperation (Graph outs) us = Unit {0}
IsGraphOrOperation (Switch values names) us = ⊥
IsGraphOrOperation _ us = us ≡ []

pub record IsUnguarded (u : Vertex-F Vertex) : Type 0 where
  pub guards : u.guards ≡ []
  pub kind : IsGraphOrOperation u.kind u.inner.items
