-- Every operation and merge carries the guards of the cases around it, outer first.
use Rattle.std.specs.Prelude.{◌≡◌, List, ◌++◌}
use Rattle.algo_tree.specs.declared.Guard.{Guard}
use Rattle.algo_tree.specs.Tree.{Label, Kind, graph, Vertex, vertex, Vertices, no_vertices, and_vertex}
use Rattle.flat_laws.specs.Guarded.{guard_sources, own_guards}

-- The second list begins with the first one.
abbrev pub StartsWith : {A : Type 0} → List A → List A → Type 0
StartsWith {A} xs ys = (rest : List A) × (ys ≡ xs ++ rest)

-- An operation has these guards first. A graph hands their sources inward, to where each operation has them.
abbrev pub CarriesBy : List Guard → Label → Kind → (List Guard → Type 0) → Type 0
CarriesBy gs l (graph outs) inside = StartsWith (guard_sources gs) l.ins × inside (own_guards 0 gs)
CarriesBy gs l _ inside = StartsWith gs l.guards

abbrev mutual
  -- Every operation in this vertex carries these guards, before any others, and every graph in it
  -- hands their sources inward.
  pub Carries : List Guard → Vertex → Type 0
  Carries gs (vertex l us) = CarriesBy gs l l.kind (λ inside. AllCarry inside us)

  -- The same holds for each of these vertices.
  pub AllCarry : List Guard → Vertices → Type 0
  AllCarry gs no_vertices = Unit {0}
  AllCarry gs (and_vertex u us) = Carries gs u × AllCarry gs us
