-- The form of a tree, resolved or between the passes of flattening, beside the lengths of its values.
use Rattle.std.specs.Prelude.{◌≡◌, ℕ, zero, suc, ◌<◌, List, [], ◌∷◌, ◌++◌, length, false}
use Rattle.std.specs.Str.{bytes_eq}
use Rattle.level_meaning.specs.declared.source.Source.{Source}
use Rattle.level_meaning.specs.declared.source.Source.TheVariants.{Own, Of}
use Rattle.level_meaning.specs.declared.source.Guard.{Guard}
use Rattle.level_meaning.specs.declared.part.Part.{Part}
use Rattle.level_meaning.specs.declared.part.Part.TheVariants.{Named, Numbered, Port}
use Rattle.level_meaning.specs.declared.frontier.Feed.{Feed}
use Rattle.level_meaning.specs.declared.frontier.Feed.TheVariants.{Fork, Diffuse, Iterate}
use Rattle.level_meaning.specs.declared.frontier.Give.{Give}
use Rattle.level_meaning.specs.declared.frontier.Give.TheVariants.{Last, Join}
use Rattle.level_meaning.specs.Level.{Node}
use Rattle.level_meaning.specs.Order.{IsAcyclic}
use Rattle.level_meaning.specs.Parts.{HasDistinctParts}
use Rattle.algo_tree.specs.Tree.{
  Kind,
  sensor,
  actuator,
  constant,
  delay,
  function,
  explode,
  implode,
  merge,
  graph,
  switch,
  repeat,
  Vertex,
  vertex,
  Vertices,
  no_vertices,
  and_vertex,
}
use Rattle.algo_tree.specs.Meaning.{nodes}

-- No later name is the same.
abbrev pub IsNewName : List ℕ → List (List ℕ) → Type 0
IsNewName x [] = Unit {0}
IsNewName x (y ∷ ys) = (bytes_eq x y ≡ false) × IsNewName x ys

-- No two of these names are the same.
abbrev pub AreDistinctNames : List (List ℕ) → Type 0
AreDistinctNames [] = Unit {0}
AreDistinctNames (x ∷ xs) = IsNewName x xs × AreDistinctNames xs

-- The names of the outer inputs of the fork lines, in the order of the inner inputs that they
-- feed.
abbrev pub fork_names : List Feed → List (List ℕ)
fork_names [] = []
fork_names (Fork name k len ∷ fs) = name ∷ fork_names fs
fork_names (Diffuse k ∷ fs) = fork_names fs
fork_names (Iterate k y ∷ fs) = fork_names fs

-- The names of the outer outputs of the join lines, in the order of the lines.
abbrev pub join_names : List Give → List (List ℕ)
join_names [] = []
join_names (Join name y ∷ gs) = name ∷ join_names gs
join_names (Last y ∷ gs) = join_names gs

-- A part is a number.
abbrev pub IsNumberedPart : Part → Type 0
IsNumberedPart (Numbered n) = Unit {0}
IsNumberedPart (Named x) = ⊥
IsNumberedPart (Port x) = ⊥

-- Each node has a number for its part.
abbrev pub AreNumbered : List Node → Type 0
AreNumbered [] = Unit {0}
AreNumbered (c ∷ cs) = IsNumberedPart c.part × AreNumbered cs

-- A source is an input of the vertex around.
abbrev pub IsOwn : Source → Type 0
IsOwn (Own k) = Unit {0}
IsOwn (Of r p) = ⊥

-- Each of these sources is an input of the vertex around.
abbrev pub AreOwn : List Source → Type 0
AreOwn [] = Unit {0}
AreOwn (s ∷ ss) = IsOwn s × AreOwn ss

-- The source of each guard is an input of the vertex around.
abbrev pub OwnGuards : List Guard → Type 0
OwnGuards [] = Unit {0}
OwnGuards (g ∷ gs) = IsOwn g.source × OwnGuards gs

-- Cases are fed by the inputs of their switch alone.
abbrev pub AreCases : Vertices → Type 0
AreCases no_vertices = Unit {0}
AreCases (and_vertex (vertex l vs) us) = (AreOwn l.ins × OwnGuards l.guards) × AreCases us

-- There is one vertex.
abbrev pub IsOne : Vertices → Type 0
IsOne no_vertices = ⊥
IsOne (and_vertex u no_vertices) = Unit {0}
IsOne (and_vertex u (and_vertex v us)) = ⊥

-- There is no vertex.
abbrev pub IsEmpty : Vertices → Type 0
IsEmpty no_vertices = Unit {0}
IsEmpty (and_vertex u us) = ⊥

-- A graph has no cycle, and its vertices have distinct parts. A switch has a case for each value and one more.
-- A repetition has one body. These have no guards; all other vertices have nothing inside.
abbrev pub IsKindWell : Kind → List Guard → Vertices → Type 0
IsKindWell (graph outs) gs us = (gs ≡ []) × (IsAcyclic (nodes us) × HasDistinctParts (nodes us))
IsKindWell (switch values names) gs us =
    ((gs ≡ []) × ((length (nodes us) ≡ suc (length values)) × (HasDistinctParts (nodes us) × AreCases us))) ×
    (AreNumbered (nodes us) × AreDistinctNames names)
IsKindWell (repeat n feeds gives) gs us =
    (gs ≡ []) × (((zero < n) × IsOne us) × AreDistinctNames (fork_names feeds ++ join_names gives))
IsKindWell (sensor n) gs us = IsEmpty us
IsKindWell (actuator n) gs us = IsEmpty us
IsKindWell (constant v) gs us = IsEmpty us
IsKindWell (delay vs) gs us = IsEmpty us
IsKindWell (function es) gs us = IsEmpty us
IsKindWell explode gs us = IsEmpty us
IsKindWell implode gs us = IsEmpty us
IsKindWell (merge values) gs us = IsEmpty us

abbrev mutual
  -- The vertex and every vertex inside it have the form that their kinds require (`IsKindWell`):
  -- graphs without cycles, switches with one case more than values, repetitions with one body, and
  -- nothing inside any other vertex.
  pub IsWell : Vertex → Type 0
  IsWell (vertex l us) = IsKindWell l.kind l.guards us × AllWell us

  -- The same holds for each of these vertices.
  pub AllWell : Vertices → Type 0
  AllWell no_vertices = Unit {0}
  AllWell (and_vertex u us) = IsWell u × AllWell us
