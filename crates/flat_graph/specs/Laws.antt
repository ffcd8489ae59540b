-- Laws of the flat meaning.
use Rattle.std.specs.Prelude.{◌≡◌, ℕ, ◌+◌, ℤ, IsTrue, List, [], ◌∷◌, ◌++◌, map, length, Some, slice_get, slice_index_or}
use Rattle.flat_graph.specs.declared.vertex.Kind.{Kind}
use Rattle.flat_graph.specs.declared.vertex.Kind.TheVariants.{Sensor, Get, Actuator}
use Rattle.flat_graph.specs.declared.vertex.Vertex.{Vertex}
use Rattle.flat_graph.specs.Graph.{Graph, lens_of}
use Rattle.flat_graph.specs.Valid.{is_flat}
use Rattle.flat_graph.specs.Fire.{fired, fired_at, kept_at}
use Rattle.flat_graph.specs.Meaning.{
  sensed,
  cell_of,
  outputs_in,
  value_in,
  conditions,
  inputs,
  reads,
  next_cells,
  cells_after,
  flat_outputs,
  flat_act_row,
}
use Rattle.syn_base.specs.Vectors.{Values}

-- Each operation gives what it makes of what its sources give.
abbrev pub IsFixedPoint : Type 0
IsFixedPoint = (g : Graph) (cells row : Values) → IsTrue (is_flat g)
    → (v : ℕ) (x : Vertex) → slice_get g.vertices v ≡ Some x
    → outputs_in g cells row v ≡
    fired g.bodies x (cell_of g cells v) (sensed x.kind row)
    (conditions (value_in g cells row) x) (inputs (value_in g cells row) x)

-- An operation that is fired on its cell, what it senses and what its sources give has its outputs.
abbrev pub IsFired : Type 0
IsFired = (g : Graph) (cells row : Values) → IsTrue (is_flat g)
    → (v : ℕ) (x : Vertex) → slice_get g.vertices v ≡ Some x
    → outputs_in g cells row v ≡ fired_at g v (cell_of g cells v) (sensed x.kind row) (reads (value_in g cells row) x)

-- The next cell of a delay is what its set half, fired on the cell and what its sources give, keeps.
abbrev pub IsKept : Type 0
IsKept = (g : Graph) (cells row : Values) (v t : ℕ) (x y : Vertex) (z : List ℤ)
    → slice_get g.vertices v ≡ Some x → x.kind ≡ Get z → x.twin ≡ Some t → slice_get g.vertices t ≡ Some y
    → cell_of g (next_cells g cells row) v ≡ kept_at g t (cell_of g cells v) (reads (value_in g cells row) y)

-- A run over rows that follow others is a run over these alone, from the cells that the others leave.
abbrev pub RunsInWindows : Type 0
RunsInWindows = (g : Graph) (before after : List Values) (opening : Values) (k : ℕ)
    → let left = cells_after g before opening (length before) in
    (cells_after g (before ++ after) opening (length before + k) ≡ cells_after g after left k)
    × ((v : ℕ) → flat_outputs g (before ++ after) opening v (length before + k) ≡ flat_outputs g after left v k)
    × (flat_act_row g (before ++ after) opening (length before + k) ≡ flat_act_row g after left k)

-- A list that holds the length of a sensor's vector, or nothing if the kind is no sensor.
abbrev pub sensor_len : Kind → List ℕ → List ℕ
sensor_len (Sensor i) outs = slice_index_or outs 0 0 ∷ []
sensor_len _ outs = []

-- The lengths of the sensors' vectors.
abbrev pub sensor_lens : List Vertex → List ℕ
sensor_lens [] = []
sensor_lens (x ∷ xs) = sensor_len x.kind x.outs ++ sensor_lens xs

-- A list that holds the length of a delay's cell, or nothing if the kind is no get half.
abbrev pub delay_len : Kind → List ℕ
delay_len (Get z) = length z ∷ []
delay_len _ = []

-- The lengths of the delays' cells.
abbrev pub delay_lens : List Vertex → List ℕ
delay_lens [] = []
delay_lens (x ∷ xs) = delay_len x.kind ++ delay_lens xs

-- With a row and cells of the right lengths each output has its length, and the cells keep theirs.
abbrev pub KeepsLengths : Type 0
KeepsLengths = (g : Graph) (cells row : Values) → IsTrue (is_flat g)
    → map length row ≡ sensor_lens g.vertices → map length cells ≡ delay_lens g.vertices
    → ((v : ℕ) (x : Vertex) → slice_get g.vertices v ≡ Some x → map length (outputs_in g cells row v) ≡ x.outs)
    × (map length (next_cells g cells row) ≡ delay_lens g.vertices)

-- A list that holds the length of the vector that an actuator takes, or nothing if the operation is
-- none.
abbrev pub actuator_len : Graph → Vertex → Kind → List ℕ
actuator_len g x (Actuator i) = lens_of g.vertices x.ins
actuator_len g x _ = []

-- The lengths of the vectors that the actuators among these operations take, in order.
abbrev pub actuator_lens : Graph → List Vertex → List ℕ
actuator_lens g [] = []
actuator_lens g (x ∷ xs) = actuator_len g x x.kind ++ actuator_lens g xs
