-- Tables computed for worked graphs: a column of get halves that says something else, or a row for a kind that is timed otherwise, breaks one of these.
use Rattle.std.proofs.Common.{◌≡◌, ℕ, zero, suc, false, List, [], ◌∷◌, ◌++◌, Option, Some, None, Ok, pos, lit<, refl}
use Rattle.std.specs.Prelude.{codes, slice_index_or, IsTrue}
use Rattle.archi_defs.specs.declared.MediumKind.TheVariants.{PointToPoint}
use Rattle.flat_graph.specs.declared.vertex.Kind.{Kind}
use Rattle.flat_graph.specs.declared.vertex.Kind.TheVariants.{Sensor, Actuator, Get, Set}
use Rattle.flat_graph.specs.declared.vertex.Source.{Source}
use Rattle.flat_graph.specs.declared.vertex.Vertex.{Vertex}
use Rattle.flat_graph.specs.Graph.{Graph}
use Rattle.flat_graph.specs.Valid.{is_flat}
use Rattle.syn_base.specs.Bytes.{Bytes}
use Rattle.archi_defs.specs.Text.{Described}
use Rattle.durations.specs.Table.{Table, StandBeside, durations_of}

abbrev source : ℕ → Source
source v = record { vertex = v; port = 0 }

abbrev vertex : Bytes → Bytes → Kind → List Source → List ℕ → Option ℕ → Vertex
vertex name def k ins outs twin = record { name = name; def = def; kind = k; guards = []; ins = ins; outs = outs; twin = twin }

abbrev get : Bytes → ℕ → Vertex
get name half = vertex (name ++ codes ":get") name (Get (pos 0 ∷ [])) [] (1 ∷ []) (Some half)

abbrev set : Bytes → ℕ → ℕ → Vertex
set name from half = vertex (name ++ codes ":set") name Set (source from ∷ []) [] (Some half)

abbrev sensor : Vertex
sensor = vertex (codes "s") (codes "s") (Sensor 0) [] (1 ∷ []) None

abbrev actuator : ℕ → Vertex
actuator from = vertex (codes "a") (codes "a") (Actuator 0) (source from ∷ []) [] None

abbrev graph : List Vertex → Graph
graph vertices = record { vertices = vertices; bodies = [] }

-- on operators P and Q, where the sensor stands on P and the actuator on Q
abbrev described : Described
described = record {
  version = 1;
  archi = record { operators = codes "P" ∷ codes "Q" ∷ []; media = record { name = codes "bus"; kind = PointToPoint; fixed = 1; per = 1; stands = 0 ∷ 1 ∷ [] } ∷ []; depth = 1 };
  durations = record { def = codes "s"; operator = 0; ticks = 3 } ∷ record { def = codes "a"; operator = 1; ticks = 5 } ∷ [];
}

abbrev anywhere : List (Option ℕ)
anywhere = Some 0 ∷ Some 0 ∷ []

abbrev on_p : List (Option ℕ)
on_p = Some 3 ∷ None ∷ []

abbrev on_q : List (Option ℕ)
on_q = None ∷ Some 5 ∷ []

abbrev made : List (List (Option ℕ)) → List (Option ℕ) → Table
made rows halves = record { operators = 2; rows = rows; halves = halves }

-- a delay between other operations: its get half has a set half too, and is none
abbrev one_delay : Graph
one_delay = graph (sensor ∷ get (codes "d") 2 ∷ set (codes "d") 0 1 ∷ actuator 1 ∷ [])

one_delay_is_flat : IsTrue (is_flat one_delay)
one_delay_is_flat = refl

one_delay_lasts : durations_of one_delay described ≡ Ok (made (on_p ∷ anywhere ∷ anywhere ∷ on_q ∷ []) (None ∷ None ∷ Some 1 ∷ None ∷ []))
one_delay_lasts = refl

-- two delays, of which the second is of two reactions: each of its stages has its own halves
abbrev two_delays : Graph
two_delays = graph (sensor ∷ get (codes "d") 6 ∷ get (codes "e") 5 ∷ get (codes "f") 4 ∷ set (codes "f") 2 3 ∷ set (codes "e") 0 2 ∷ set (codes "d") 0 1 ∷ actuator 3 ∷ [])

two_delays_are_flat : IsTrue (is_flat two_delays)
two_delays_are_flat = refl

two_delays_last : durations_of two_delays described
    ≡ Ok (made (on_p ∷ anywhere ∷ anywhere ∷ anywhere ∷ anywhere ∷ anywhere ∷ anywhere ∷ on_q ∷ []) (None ∷ None ∷ None ∷ None ∷ Some 3 ∷ Some 2 ∷ Some 1 ∷ None ∷ []))
two_delays_last = refl

-- a table in which a set half may not stand beside its get half
not_beside : StandBeside (made (on_p ∷ on_q ∷ []) (None ∷ Some 0 ∷ [])) → ⊥
not_beside h = absurd (let e = h 1 0 0 refl (lit< tt) refl in cc)

-- each may stand where the other may not, but neither is a half
apart : StandBeside (made (on_p ∷ on_q ∷ []) (None ∷ None ∷ []))
apart v u o half on may = absurd (none v half)
  where
    none : (v : ℕ) → slice_index_or (None ∷ None ∷ []) v None ≡ Some u → ⊥
    none zero h = cc
    none (suc zero) h = cc
    none (suc (suc v)) h = cc
