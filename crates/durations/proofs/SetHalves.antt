-- The column of get halves says what the flat graph does.
use Rattle.std.proofs.Common.{◌≡◌, ℕ, zero, suc, false, List, [], ◌∷◌, map, Option, Some, None, refl, sym, ap, ◌∙◌}
use Rattle.std.specs.Prelude.{slice_get, slice_index_or}
use Rattle.std.specs.Option.{option_to_list}
use Rattle.flat_graph.specs.declared.vertex.Kind.{Kind}
use Rattle.flat_graph.specs.declared.vertex.Kind.TheVariants.{Sensor, Actuator, Function, Constant, Get, Set, Explode, Implode, Merge}
use Rattle.flat_graph.specs.declared.vertex.Vertex.{Vertex}
use Rattle.flat_graph.specs.Graph.{Graph, with_vertex}
use Rattle.flat_graph.specs.Order.{get_half}
use Rattle.archi_defs.specs.Archi.{Architecture}
use Rattle.durations.specs.Table.{Table, get_half_of, half_by, half_in, is_timed}
use Rattle.durations.specs.Fitting.{IsOf}

by_list : (k : Kind) (twin : Option ℕ) → get_half k twin ≡ option_to_list (half_by k twin)
by_list Set (Some u) = refl
by_list Set None = refl
by_list (Sensor i) twin = refl
by_list (Actuator i) twin = refl
by_list (Function b) twin = refl
by_list (Constant z) twin = refl
by_list (Get z) twin = refl
by_list Explode twin = refl
by_list Implode twin = refl
by_list (Merge vs) twin = refl

-- what a set half depends on beside its source is its get half alone
pub get_half_list : (x : Vertex) → get_half x.kind x.twin ≡ option_to_list (get_half_of x)
get_half_list x = by_list x.kind x.twin

untimed_kind : (k : Kind) (twin : Option ℕ) (u : ℕ) → half_by k twin ≡ Some u → is_timed k ≡ false
untimed_kind Set twin u h = refl
untimed_kind (Sensor i) twin u h = absurd cc
untimed_kind (Actuator i) twin u h = absurd cc
untimed_kind (Function b) twin u h = absurd cc
untimed_kind (Constant z) twin u h = refl
untimed_kind (Get z) twin u h = refl
untimed_kind Explode twin u h = refl
untimed_kind Implode twin u h = refl
untimed_kind (Merge vs) twin u h = refl

-- a set half takes no time
pub untimed : (x : Vertex) (u : ℕ) → get_half_of x ≡ Some u → is_timed x.kind ≡ false
untimed x u h = untimed_kind x.kind x.twin u h

-- an operation with a get half is there
pub half_there : (xs : List Vertex) (v u : ℕ) → slice_index_or (map get_half_of xs) v None ≡ Some u → (x : Vertex) × (slice_get xs v ≡ Some x) × (get_half_of x ≡ Some u)
half_there [] v u h = absurd cc
half_there (x ∷ xs) zero u h = (x, refl, h)
half_there (x ∷ xs) (suc v) u h = half_there xs v u h

some_of : (o : Option ℕ) (u : ℕ) → option_to_list o ≡ u ∷ [] → o ≡ Some u
some_of None u h = absurd cc
some_of (Some w) u h = cc

half_at : (xs : List Vertex) (v u : ℕ) → with_vertex (slice_get xs v) [] (λ x. get_half x.kind x.twin) ≡ u ∷ [] → slice_index_or (map get_half_of xs) v None ≡ Some u
half_at [] v u h = absurd cc
half_at (x ∷ xs) zero u h = some_of (get_half_of x) u (sym (get_half_list x) ∙ h)
half_at (x ∷ xs) (suc v) u h = half_at xs v u h

-- the get half of an operation of the graph is the one of the table
pub half_of_graph : (g : Graph) (a : Architecture) (t : Table) → IsOf g a t → (v u : ℕ) → with_vertex (slice_get g.vertices v) [] (λ x. get_half x.kind x.twin) ≡ u ∷ [] → half_in t v ≡ Some u
half_of_graph g a t of v u h = ap (λ (hs : List (Option ℕ)). slice_index_or hs v None) of.halves ∙ half_at g.vertices v u h
