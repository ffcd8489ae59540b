-- What a run of a flat graph returns.
use Rattle.std.specs.Prelude.{ℕ, List, [], ◌∷◌, ◌++◌, length, map}
use Rattle.syn_base.specs.Rows.{Reactions}
use Rattle.flat_graph.specs.declared.vertex.Kind.{Kind}
use Rattle.flat_graph.specs.declared.vertex.Kind.TheVariants.{Actuator}
use Rattle.flat_graph.specs.declared.vertex.Vertex.{Vertex}
use Rattle.flat_graph.specs.Graph.{Graph, lens_of}
use Rattle.flat_graph.specs.Meaning.{initial_cells, flat_act_row}
use Rattle.syn_base.specs.Numbers.{numbers_below}

-- The lengths of the inputs of an actuator, which has one.
abbrev pub taken_len : List Vertex → Vertex → Kind → List ℕ
taken_len vertices x (Actuator i) = lens_of vertices x.ins
taken_len vertices x _ = []

-- The lengths of what the actuators take, in order.
abbrev pub taken_lens : List Vertex → List Vertex → List ℕ
taken_lens vertices [] = []
taken_lens vertices (x ∷ xs) = taken_len vertices x x.kind ++ taken_lens vertices xs

-- What the actuators take in each reaction, from the initial values of the delays on.
abbrev pub ran : Graph → Reactions → Reactions
ran g rows = record {
  lens = taken_lens g.vertices g.vertices;
  reactions =
      map (flat_act_row g rows.reactions (initial_cells g.vertices)) (numbers_below (length rows.reactions));
}
