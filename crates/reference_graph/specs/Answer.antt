-- What is told of links: the first vertex that reaches itself, or else the depth of each.
use Rattle.std.specs.Prelude.{◌≡◌, ℕ, ◌<◌, length, Some, None, Contains}
use Rattle.std.specs.List.{All}
use Rattle.reference_graph.specs.Links.{Links, from, first_recursive, depths}
use Rattle.reference_graph.specs.declared.depths.Depths.{Depths}
use Rattle.reference_graph.specs.declared.depths.Depths.TheVariants.{Recursive, Of}

-- Every number is that of a vertex.
abbrev pub AreInside : Links → Type 0
AreInside links = All (All (λ b. b < length links)) links

-- Vertex a refers to vertex b.
abbrev pub Refers : Links → ℕ → ℕ → Type 0
Refers links a b = Contains (from links a) b

-- What is returned is right: the first vertex that reaches itself, or the depth of
-- each if none does.
abbrev pub AreDepths : Links → Depths → Type 0
AreDepths links (Recursive i) = first_recursive links ≡ Some i
AreDepths links (Of ds) = (first_recursive links ≡ None) × (ds ≡ depths links)
