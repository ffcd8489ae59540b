-- The columns of the table of the sensors: `k`, and then each element of each sensor reference of the main graph.
use Rattle.std.specs.Prelude.{ℕ, pos, List, [], ◌∷◌, ◌++◌, map, codes}
use Rattle.std.specs.Fmt.{signed_decimal}
use Rattle.algo_tree.specs.Parts.{name_of}
use Rattle.algo_tree.specs.Tree.{Kind, sensor, Vertex, vertex, Vertices, no_vertices, and_vertex}
use Rattle.algo_tree.specs.Ends.{first_length}
use Rattle.syn_base.specs.Numbers.{numbers_below}

-- The column of element j of the sensor with this name: `name.j`.
abbrev pub column : List ℕ → ℕ → List ℕ
column name j = name ++ (codes "." ++ signed_decimal (pos j))

-- The columns of a sensor of this name and length; any other kind has none.
abbrev pub columns_of : Kind → List ℕ → ℕ → List (List ℕ)
columns_of (sensor n) name len = map (column name) (numbers_below len)
columns_of _ name len = []

-- The columns of the sensors among these vertices, in order. Vertices inside them do not count.
abbrev pub columns_in : Vertices → List (List ℕ)
columns_in no_vertices = []
columns_in (and_vertex (vertex l vs) us) = columns_of l.kind (name_of l.part) (first_length l.outs) ++ columns_in us

-- The header, sensors in declared order.
abbrev pub header_of : Vertex → List (List ℕ)
header_of (vertex l us) = codes "k" ∷ columns_in us
