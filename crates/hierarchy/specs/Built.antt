-- Operations that are added one by one.
use Rattle.std.specs.Prelude.{◌≡◌, ℕ, ◌<◌, List, [], ◌∷◌, ◌++◌, length, map}
use Rattle.algo_tree.specs.declared.Source.{Source}
use Rattle.algo_tree.specs.Level.{Path}
use Rattle.algo_tree.specs.Tree as tree
use Rattle.algo_tree.specs.Tree.{Label}
use Rattle.flat_graph.specs.declared.vertex.Kind.{Kind}
use Rattle.flat_graph.specs.declared.vertex.Kind.TheVariants.{Function}
use Rattle.flat_graph.specs.declared.vertex.Vertex.{Vertex}
use Rattle.flat_graph.specs.Graph.{Graph}
use Rattle.flat_graph.specs.Meaning.{level_source, level_guard}
use Rattle.flat_laws.specs.Flat.{Operation, gets, sets}
use Rattle.flat_laws.specs.Inlined.{wire_guard, operation_of}
use Rattle.flat_laws.specs.Numbering.{HasBodiesInOrder}
use Rattle.flat_laws.specs.Stands.{Stands}
use Rattle.hierarchy.specs.declared.operation.Inlined.{Inlined}
use Rattle.syn_base.specs.Vectors.{Vector}

-- The flat graph that has been built so far.
abbrev pub graph_of : Inlined → Graph
graph_of all = record { vertices = all.vertices.items; bodies = all.bodies.items }

-- The body of a function is one of n.
abbrev pub IsBodyThere : ℕ → Kind → Type 0
IsBodyThere n (Function b) = b < n
IsBodyThere n _ = Unit {0}

abbrev pub AreBodiesThere : ℕ → List Vertex → Type 0
AreBodiesThere n [] = Unit {0}
AreBodiesThere n (x ∷ xs) = IsBodyThere n x.kind × AreBodiesThere n xs

-- A graph, whether valid or not yet, that stands for these operations.
pub record Built (g : Graph) (ops : List Operation) : Type 0 where
  pub stands : Stands g ops
  pub bodies : AreBodiesThere (length g.bodies) g.vertices
  pub order : HasBodiesInOrder g

-- Whatever was built before, these operations are added after it, by the number of the first.
abbrev pub Adds : Graph → Graph → (ℕ → List Operation) → Type 0
Adds old new more = (ops : List Operation) → Built old ops → Built new (ops ++ more (length ops))

-- An operation of a vertex with these inputs and outputs, where the sources of the guards of its level lead as w says.
pub record IsOperation (w : Source → Source) (l : Label) (sources : List Source) (lens : List ℕ) (x : Vertex) :
    Type 0 where
  pub definition : x.def ≡ l.definition
  pub ins : map level_source x.ins ≡ sources
  pub guards : map level_guard x.guards ≡ map (wire_guard w) l.guards
  pub outs : x.outs ≡ lens

-- A vertex of this kind is one operation.
abbrev pub IsRun : tree.Kind → Type 0
IsRun (tree.delay vs) = ⊥
IsRun (tree.graph outs) = ⊥
IsRun (tree.switch values names) = ⊥
IsRun (tree.repeat n feeds gives) = ⊥
IsRun _ = Unit {0}

-- The halves of stage i of a delay, which takes what these sources give.
abbrev pub stage_pair : (Source → Source) → Path → ℕ → Label → Vector → List Source → List Operation
stage_pair w path i l v sources =
    operation_of w path i l [] l.outs (gets v) ∷ operation_of w path i l sources [] sets ∷ []
