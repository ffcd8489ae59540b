-- The names of the actuators of the main graph, in declared order.
use Rattle.std.specs.Prelude.{ℕ, List, [], ◌∷◌, ◌++◌}
use Rattle.algo_tree.specs.Parts.{name_of}
use Rattle.algo_tree.specs.Tree.{Kind, actuator, Vertex, vertex, Vertices, no_vertices, and_vertex}

-- An actuator has its name, any other kind has none.
abbrev pub actuator_name : Kind → List ℕ → List (List ℕ)
actuator_name (actuator n) name = name ∷ []
actuator_name _ name = []

-- The names of the actuators among these vertices, in order. Vertices inside them do not count.
abbrev pub actuator_names_in : Vertices → List (List ℕ)
actuator_names_in no_vertices = []
actuator_names_in (and_vertex (vertex l vs) us) = actuator_name l.kind (name_of l.part) ++ actuator_names_in us

-- The names of the actuators of the main graph, in declared order.
abbrev pub actuator_names : Vertex → List (List ℕ)
actuator_names (vertex l us) = actuator_names_in us
