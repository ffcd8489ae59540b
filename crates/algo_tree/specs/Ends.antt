-- Sensors and actuators stand in the main graph alone, and are numbered there.
use Rattle.std.specs.Prelude.{◌≡◌, ℕ, List, [], ◌∷◌, ◌++◌, map, length, slice_index_or}
use Rattle.level_meaning.specs.declared.source.Source.{Source}
use Rattle.algo_tree.specs.Tree.{Kind, sensor, actuator, Vertex, vertex, Vertices, no_vertices, and_vertex}
use Rattle.algo_tree.specs.Typed.{outs_of, source_length}
use Rattle.syn_base.specs.Numbers.{numbers_below}

-- A kind is neither that of a sensor nor that of an actuator.
abbrev pub IsNoEnd : Kind → Type 0
IsNoEnd (sensor n) = ⊥
IsNoEnd (actuator n) = ⊥
IsNoEnd _ = Unit {0}

abbrev mutual
  -- Neither the vertex nor any vertex inside it, however deep, is a sensor or an actuator.
  pub HasNoEnds : Vertex → Type 0
  HasNoEnds (vertex l us) = IsNoEnd l.kind × AllNoEnds us

  -- The same holds for each of these vertices.
  pub AllNoEnds : Vertices → Type 0
  AllNoEnds no_vertices = Unit {0}
  AllNoEnds (and_vertex u us) = HasNoEnds u × AllNoEnds us

-- No sensor and no actuator stands inside one of these vertices.
abbrev pub NoneInside : Vertices → Type 0
NoneInside no_vertices = Unit {0}
NoneInside (and_vertex (vertex l vs) us) = AllNoEnds vs × NoneInside us

-- A list that holds the number of the sensor, or nothing if the kind is no sensor.
abbrev pub sensor_number : Kind → List ℕ
sensor_number (sensor n) = n ∷ []
sensor_number _ = []

-- A list that holds the number of the actuator, or nothing if the kind is no actuator.
abbrev pub actuator_number : Kind → List ℕ
actuator_number (actuator n) = n ∷ []
actuator_number _ = []

-- The numbers of the sensors among these vertices, in order. Vertices inside them do not count.
abbrev pub sensor_numbers : Vertices → List ℕ
sensor_numbers no_vertices = []
sensor_numbers (and_vertex (vertex l vs) us) = sensor_number l.kind ++ sensor_numbers us

-- The numbers of the actuators among these vertices, in order. Vertices inside them do not count.
abbrev pub actuator_numbers : Vertices → List ℕ
actuator_numbers no_vertices = []
actuator_numbers (and_vertex (vertex l vs) us) = actuator_number l.kind ++ actuator_numbers us

-- Sensors and actuators are each numbered from 0 in order.
pub record AreEndsNumbered (us : Vertices) : Type 0 where
  pub sensors : sensor_numbers us ≡ numbers_below (length (sensor_numbers us))
  pub actuators : actuator_numbers us ≡ numbers_below (length (actuator_numbers us))

-- The first of these lengths, 0 where there is none.
abbrev pub first_length : List ℕ → ℕ
first_length ns = slice_index_or ns 0 0

-- A list that holds the length of the sensor's output, or nothing if the kind is no sensor.
abbrev pub sensor_length : Kind → List ℕ → List ℕ
sensor_length (sensor n) outs = first_length outs ∷ []
sensor_length _ outs = []

-- A list that holds the length of the actuator's input, or nothing if the kind is no actuator.
abbrev pub actuator_length : Kind → List ℕ → List ℕ
actuator_length (actuator n) lens = first_length lens ∷ []
actuator_length _ lens = []

-- The lengths of the sensors among these vertices, in order.
abbrev pub sensor_lengths_in : Vertices → List ℕ
sensor_lengths_in no_vertices = []
sensor_lengths_in (and_vertex (vertex l vs) us) = sensor_length l.kind l.outs ++ sensor_lengths_in us

-- The lengths of the actuators among these vertices, in order.
abbrev pub actuator_lengths_in : (Source → ℕ) → Vertices → List ℕ
actuator_lengths_in len no_vertices = []
actuator_lengths_in len (and_vertex (vertex l vs) us) =
    actuator_length l.kind (map len l.ins) ++ actuator_lengths_in len us

-- The lengths of the sensors of the main graph, in declared order.
abbrev pub sensor_lengths : Vertex → List ℕ
sensor_lengths (vertex l us) = sensor_lengths_in us

-- The lengths of the actuators of the main graph, in declared order. The length of an actuator is
-- that of the source of its input.
abbrev pub actuator_lengths : Vertex → List ℕ
actuator_lengths (vertex l us) = actuator_lengths_in (source_length [] (outs_of us)) us
