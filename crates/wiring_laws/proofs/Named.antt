-- What is pruned keeps its names and bounds.
use Rattle.std.proofs.Common.{◌==◌, List, Bool, true, false, cond, Option, ℕ}
use Rattle.algo_tree.specs.Tree.{Label, Vertex, vertex, Vertices, no_vertices, and_vertex}
use Rattle.algo_tree.specs.Counted.{operations}
use Rattle.algo_tree.specs.Bounded.{IsLabelBounded, IsBounded, AllBounded, HasBounds}
use Rattle.algo_tree.specs.Named.{IsLabelNamed, IsNamed, AllNamed, HasNames}
use Rattle.wiring_laws.specs.Wiring.{wiring}
use Rattle.wiring_laws.specs.Pruned.{passing, prune, prune_all, pruned}

bounded-either : (l : Label) (us : Vertices) (os : List (Option ℕ)) → IsLabelBounded l → AllBounded us → (b : Bool) → IsBounded (cond b (passing l os) (vertex l us))
bounded-either l us os h inner true = (record { part = h.part; kind = tt }, tt)
bounded-either l us os h inner false = (h, inner)

named-either : (l : Label) (us : Vertices) (os : List (Option ℕ)) → IsLabelNamed l → AllNamed us → (b : Bool) → IsNamed (cond b (passing l os) (vertex l us))
named-either l us os h inner true = (record { part = h.part; definition = h.definition; kind = tt }, tt)
named-either l us os h inner false = (h, inner)

mutual
  bounded-prune : (u : Vertex) → IsBounded u → IsBounded (prune u)
  bounded-prune (vertex l us) h = bounded-either l (prune_all us) (wiring (vertex l us)) h.0 (bounded-prune_all us h.1) (operations (vertex l us) == 0)

  bounded-prune_all : (us : Vertices) → AllBounded us → AllBounded (prune_all us)
  bounded-prune_all no_vertices h = tt
  bounded-prune_all (and_vertex u us) h = (bounded-prune u h.0, bounded-prune_all us h.1)

mutual
  named-prune : (u : Vertex) → IsNamed u → IsNamed (prune u)
  named-prune (vertex l us) h = named-either l (prune_all us) (wiring (vertex l us)) h.0 (named-prune_all us h.1) (operations (vertex l us) == 0)

  named-prune_all : (us : Vertices) → AllNamed us → AllNamed (prune_all us)
  named-prune_all no_vertices h = tt
  named-prune_all (and_vertex u us) h = (named-prune u h.0, named-prune_all us h.1)

pub bounds-pruned : (main : Vertex) → HasBounds main → HasBounds (pruned main)
bounds-pruned (vertex l us) h = bounded-prune_all us h

pub names-pruned : (main : Vertex) → HasNames main → HasNames (pruned main)
names-pruned (vertex l us) h = named-prune_all us h
