-- How long each operation lasts on each operator.
use Rattle.std.specs.Prelude.{
  ◌≡◌,
  ℕ,
  ◌<◌,
  ◌≤◌,
  IsTrue,
  Bool,
  true,
  false,
  ◌&&◌,
  not,
  if◌then◌else◌,
  List,
  [],
  ◌∷◌,
  length,
  map,
  slice_index_or,
  Option,
  Some,
  None,
  is_some,
  IfSome,
  Result,
  Ok,
  All,
  Contains,
}
use Rattle.std.specs.List.{list_any, range_with_len}
use Rattle.flat_graph.specs.declared.vertex.Kind.{Kind}
use Rattle.flat_graph.specs.declared.vertex.Kind.TheVariants.{Sensor, Actuator, Function, Set}
use Rattle.flat_graph.specs.declared.vertex.Vertex.{Vertex}
use Rattle.flat_graph.specs.Graph.{Graph}
use Rattle.archi_defs.specs.declared.text.DurationLine.{DurationLine}
use Rattle.archi_defs.specs.Refusals.{ArchiRefusal}
use Rattle.archi_defs.specs.declared.fault.ArchiCause.TheVariants.{NoDuration}
use Rattle.syn_base.specs.Bytes.{Bytes}
use Rattle.archi_defs.specs.Text.{Described}
use Rattle.text_lines.specs.Refusals.{refused}
use Rattle.durations.specs.Lines.{ticks_of, is_given, most_ticks}
use Rattle.syn_base.specs.Numbers.{lesser}

-- For each operation a row, the ticks on each operator, where it may stand there; and its get half, where it is a
-- set half.
pub record Table : Type 0 where
  pub operators : ℕ
  pub rows : List (List (Option ℕ))
  pub halves : List (Option ℕ)

-- The table for this many operators with these rows and get halves, one of each for each operation.
abbrev pub of_columns : ℕ → List (List (Option ℕ)) → List (Option ℕ) → Table
of_columns operators rows halves = record { operators = operators; rows = rows; halves = halves }

-- sensors, actuators and functions last as long as the text says
abbrev pub is_timed : Kind → Bool
is_timed (Sensor i) = true
is_timed (Actuator i) = true
is_timed (Function b) = true
is_timed _ = false

-- constants and what flattening makes take no time, on any operator
abbrev pub entry : List DurationLine → Vertex → ℕ → Option ℕ
entry lines x o = if is_timed x.kind then ticks_of lines x.def o else Some 0

-- The ticks of an operation on each of this many operators, in order; none for one on which it
-- may not be placed.
abbrev pub row : ℕ → List DurationLine → Vertex → List (Option ℕ)
row operators lines x = map (entry lines x) (range_with_len 0 operators)

-- the twin of a set half is its get half, and nothing else has a get half
abbrev pub half_by : Kind → Option ℕ → Option ℕ
half_by Set twin = twin
half_by _ twin = None

-- the get half of an operation that is a set half
abbrev pub get_half_of : Vertex → Option ℕ
get_half_of x = half_by x.kind x.twin

-- The table of these operations for this many operators by the durations of a text, even if
-- some are missing.
abbrev pub table : List Vertex → ℕ → List DurationLine → Table
table vertices operators lines = of_columns operators (map (row operators lines) vertices) (map get_half_of vertices)

-- An operation lacks its duration: it needs one, and its definition has none on any operator.
abbrev pub is_missing : List DurationLine → Vertex → Bool
is_missing lines x = is_timed x.kind && not (is_given lines x.def)

-- the definition of the least operation of which a duration is missing
abbrev pub missing : List DurationLine → List Vertex → Option Bytes
missing lines [] = None
missing lines (x ∷ xs) = if is_missing lines x then Some x.def else missing lines xs

-- the table, unless a duration is missing
abbrev pub unless_missing : Option Bytes → Table → Result Table ArchiRefusal
unless_missing None t = Ok t
unless_missing (Some def) t = refused 0 (NoDuration def)

-- the durations of a flat graph by what a text describes, or the refusal
abbrev pub durations_of : Graph → Described → Result Table ArchiRefusal
durations_of g d =
    unless_missing (missing d.durations g.vertices) (table g.vertices (length d.archi.operators) d.durations)

-- an entry for each operator, of which some is there, and none is above 1,000,000,000
pub record IsRow (operators : ℕ) (entries : List (Option ℕ)) : Type 0 where
  pub each : length entries ≡ operators
  pub some : list_any is_some entries ≡ true
  pub bounded : All (λ e. IfSome e (λ t. t ≤ most_ticks)) entries

-- the row of an operation, by its number
abbrev pub row_in : Table → ℕ → List (Option ℕ)
row_in t v = slice_index_or t.rows v []

-- The ticks of operation v on operator o; none if it may not be placed there, or if one of
-- them is not there.
abbrev pub entry_in : Table → ℕ → ℕ → Option ℕ
entry_in t v o = slice_index_or (row_in t v) o None

-- the get half of an operation, by its number
abbrev pub half_in : Table → ℕ → Option ℕ
half_in t v = slice_index_or t.halves v None

-- the operation may stand on the operator
abbrev pub MayStand : Table → ℕ → ℕ → Type 0
MayStand t v o = IsTrue (is_some (entry_in t v o))

-- a set half may stand wherever its get half may
abbrev pub StandBeside : Table → Type 0
StandBeside t = (v u o : ℕ) → half_in t v ≡ Some u → o < t.operators → MayStand t u o → MayStand t v o

-- Each operation may stand on some operator, for a bounded time, and a set half wherever its get half may.
pub record IsTable (table : Table) : Type 0 where
  pub rows : All (IsRow table.operators) table.rows
  pub halves : length table.halves ≡ length table.rows
  pub beside : StandBeside table

-- the least entry that is there
abbrev pub least_of : List (Option ℕ) → Option ℕ
least_of [] = None
least_of (e ∷ entries) = lesser e (least_of entries)

-- it is an entry, and no entry is below it
abbrev pub IsLeast : List (Option ℕ) → ℕ → Type 0
IsLeast entries t = Contains entries (Some t) × ((u : ℕ) → Contains entries (Some u) → t ≤ u)
