-- Where the values of a graph stand, computed on one that was worked by hand.
use Rattle.std.proofs.Common.{◌≡◌, ◌≤◌, ℕ, ℤ, pos, List, [], ◌∷◌, refl}
use Rattle.std.specs.Prelude.{negsuc, None, Some, codes, slice_index_or, map}
use Rattle.syn_base.specs.Numbers.{numbers_below}
use Rattle.flat_graph.specs.declared.vertex.Source.{Source}
use Rattle.flat_graph.specs.declared.vertex.Kind.{Kind}
use Rattle.flat_graph.specs.declared.vertex.Kind.TheVariants.{Sensor, Actuator, Function, Get, Set}
use Rattle.flat_graph.specs.declared.vertex.Vertex.{Vertex}
use Rattle.graph_code.specs.Places.{width_of, start_of, span_of, outputs_at, value_at, starts_from}

abbrev source : ℕ → ℕ → Source
source v p = record { vertex = v; port = p }

abbrev vertex : Kind → List Source → List ℕ → Vertex
vertex kind ins outs = record { name = codes "v"; def = codes "V"; kind = kind; guards = []; ins = ins; outs = outs; twin = None }

-- a sensor of two, a delay that two read, a function of three outputs, a set half, and an actuator
abbrev vertices : List Vertex
vertices =
    vertex (Sensor 0) [] (2 ∷ [])
    ∷ vertex (Get (pos 9 ∷ [])) [] (1 ∷ [])
    ∷ vertex (Function 0) (source 0 0 ∷ source 1 0 ∷ []) (1 ∷ 3 ∷ 2 ∷ [])
    ∷ vertex Set (source 2 0 ∷ []) []
    ∷ vertex (Actuator 0) (source 2 1 ∷ []) []
    ∷ vertex (Function 1) (source 1 0 ∷ []) (2 ∷ []) ∷ []

places : (width_of vertices ≡ 11) × (starts_from 0 vertices ≡ 0 ∷ 2 ∷ 3 ∷ 9 ∷ 9 ∷ 9 ∷ []) × (map (start_of vertices) (numbers_below 7) ≡ 0 ∷ 2 ∷ 3 ∷ 9 ∷ 9 ∷ 9 ∷ 11 ∷ [])
places = (refl, refl, refl)

-- the three outputs of the function, and what is no output, of it, of the set half or of the graph
spans : (span_of vertices (source 2 0) ≡ record { start = 3; len = 1 }) × (span_of vertices (source 2 1) ≡ record { start = 4; len = 3 })
    × (span_of vertices (source 2 2) ≡ record { start = 7; len = 2 }) × (span_of vertices (source 2 3) ≡ record { start = 9; len = 0 })
    × (span_of vertices (source 3 0) ≡ record { start = 9; len = 0 }) × (span_of vertices (source 6 1) ≡ record { start = 0; len = 0 })
spans = (refl, refl, refl, refl, refl, refl)

-- the values, and after them two words of which codes make use
abbrev store : List ℤ
store = pos 10 ∷ pos 11 ∷ negsuc 0 ∷ pos 30 ∷ pos 40 ∷ pos 41 ∷ pos 42 ∷ pos 50 ∷ pos 51 ∷ pos 60 ∷ pos 61 ∷ pos 7 ∷ pos 8 ∷ []

values : (outputs_at vertices store 0 ≡ (pos 10 ∷ pos 11 ∷ []) ∷ []) × (outputs_at vertices store 1 ≡ (negsuc 0 ∷ []) ∷ [])
    × (outputs_at vertices store 2 ≡ (pos 30 ∷ []) ∷ (pos 40 ∷ pos 41 ∷ pos 42 ∷ []) ∷ (pos 50 ∷ pos 51 ∷ []) ∷ [])
    × (outputs_at vertices store 3 ≡ []) × (outputs_at vertices store 5 ≡ (pos 60 ∷ pos 61 ∷ []) ∷ []) × (outputs_at vertices store 6 ≡ [])
values = (refl, refl, refl, refl, refl, refl)

sources : (value_at vertices store (source 2 1) ≡ pos 40 ∷ pos 41 ∷ pos 42 ∷ []) × (value_at vertices store (source 2 3) ≡ []) × (value_at vertices store (source 6 0) ≡ [])
sources = (refl, refl, refl)
