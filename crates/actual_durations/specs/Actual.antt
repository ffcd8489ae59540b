-- What a text of actual durations says beside an architecture whose schedule is dated: how long each operation and
-- each transfer of the schedule really lasts, or the first refusal.
use Rattle.std.specs.Prelude.{
  ℕ,
  suc,
  ◌+◌,
  ◌*◌,
  Bool,
  ◌&&◌,
  ◌||◌,
  ◌==◌,
  nat_eq,
  nat_lt,
  List,
  [],
  ◌∷◌,
  ◌++◌,
  length,
  map,
  Option,
  Some,
  None,
  slice_get,
  option_map,
  unwrap_or,
  Result,
  Ok,
  Err,
  if◌then◌else◌,
}
use Rattle.std.specs.Cmp.Lexicographic.{pointwise}
use Rattle.std.specs.List.{find, range_with_len}
use Rattle.std.specs.Str.{bytes_eq}
use Rattle.text_lines.specs.Refusals.{error_of}
use Rattle.syn_base.specs.Bytes.{Bytes}
use Rattle.schedule.specs.declared.Vertex.{Vertex}
use Rattle.schedule.specs.Graph.{Graph, len_of}
use Rattle.schedule.specs.declared.Medium.{Medium}
use Rattle.schedule.specs.Archi.{Architecture, same_kind}
use Rattle.schedule.specs.declared.DurationLine.{DurationLine}
use Rattle.schedule.specs.Refusals.{ArchiRefusal}
use Rattle.schedule.specs.Text.{Described, description_of}
use Rattle.schedule.specs.Table.{Table, entry, entry_in}
use Rattle.schedule.specs.declared.decision.Transfer.{Transfer}
use Rattle.schedule.specs.declared.decision.Decision.{Decision}
use Rattle.schedule.specs.declared.decision.Schedule.{Schedule}
use Rattle.actual_defs.specs.declared.fault.ActualFault.{ActualFault}
use Rattle.actual_defs.specs.declared.fault.ActualFault.TheVariants.{Differs, Longer, Missing}
use Rattle.actual_defs.specs.declared.fault.ActualError.{ActualError}
use Rattle.actual_defs.specs.declared.fault.ActualError.TheVariants.{Refused}
use Rattle.actual_defs.specs.Refusal.{text_error}
use Rattle.schedule.specs.Acts.{transfers_of}

-- of one name and kind, at which the same operators stand
abbrev pub same_medium : Medium → Medium → Bool
same_medium m n = bytes_eq m.name n.name && same_kind m.kind n.kind && pointwise nat_eq m.stands n.stands

-- Both have the same operators, media and depth; the times of the media may differ.
abbrev pub same_architecture : Architecture → Architecture → Bool
same_architecture a b =
    pointwise bytes_eq a.operators b.operators && pointwise same_medium a.media b.media && (a.depth == b.depth)

-- the first of two faults
abbrev pub or_else : Option ActualFault → Option ActualFault → Option ActualFault
or_else (Some f) g = Some f
or_else None g = g

-- The second medium is slower than the stated one: in its fixed part, or else in the part of each element.
abbrev pub is_slower : Medium → Medium → Bool
is_slower m n = nat_lt m.fixed n.fixed || nat_lt m.per n.per

-- the first of these media that is slower than the stated one at its place
abbrev pub slower_medium : List Medium → List Medium → Option ActualFault
slower_medium (m ∷ ms) (n ∷ ns) = if is_slower m n then Some (Longer n.name) else slower_medium ms ns
slower_medium _ _ = None

-- of a definition, where the stated duration is the first and the actual one the second
abbrev pub duration_fault : Bytes → Option ℕ → Option ℕ → Option ActualFault
duration_fault def (Some n) (Some t) = if nat_lt n t then Some (Longer def) else None
duration_fault def (Some n) None = Some (Missing def)
duration_fault def None _ = None

-- the operator on which a schedule places an operation
abbrev pub operator_of : List Decision → ℕ → Option ℕ
operator_of ds v = option_map (λ d. d.operator) (find (λ d. d.op == v) ds)

-- by number the operator of each of this many operations
abbrev pub operators_of : List Decision → ℕ → List (Option ℕ)
operators_of ds n = map (operator_of ds) (range_with_len 0 n)

-- The stated durations, by a table, and the actual ones, by the lines of a text.
module _ (t : Table) (lines : List DurationLine) where
  -- of operation v, which is x, on its operator
  abbrev pub operation_fault : ℕ → Vertex → Option ℕ → Option ActualFault
  operation_fault v x None = None
  operation_fault v x (Some o) = duration_fault x.def (entry_in t v o) (entry lines x o)

  -- the first fault of operations on their operators, of which the first has number v
  abbrev pub slower_operation : ℕ → List Vertex → List (Option ℕ) → Option ActualFault
  slower_operation v (x ∷ xs) (o ∷ os) = or_else (operation_fault v x o) (slower_operation (suc v) xs os)
  slower_operation v _ _ = None

-- the first fault: medium by medium, and then operation by operation
abbrev pub first_fault : Graph → Architecture → Table → Schedule → Described → Option ActualFault
first_fault g a t s d =
    or_else (slower_medium a.media d.archi.media)
    (slower_operation t d.durations 0 g.vertices (operators_of s.decisions (length g.vertices)))

-- how long an operation lasts on its operator
abbrev pub operation_ticks : List DurationLine → Vertex → Option ℕ → ℕ
operation_ticks lines x None = 0
operation_ticks lines x (Some o) = unwrap_or (entry lines x o) 0

-- how long operations last on their operators
abbrev pub operations_ticks : List DurationLine → List Vertex → List (Option ℕ) → List ℕ
operations_ticks lines (x ∷ xs) (o ∷ os) = operation_ticks lines x o ∷ operations_ticks lines xs os
operations_ticks lines _ _ = []

-- this many elements over a medium
abbrev pub carrying_ticks : ℕ → Option Medium → ℕ
carrying_ticks n None = 0
carrying_ticks n (Some m) = m.fixed + n * m.per

-- How many ticks a transfer lasts over these media, by the length of its source, and 0 if its
-- medium is not among them.
abbrev pub transfer_ticks : List Vertex → List Medium → Transfer → ℕ
transfer_ticks vertices media t = carrying_ticks (len_of vertices t.source) (slice_get media t.medium)

-- the ticks of each operation by number, and then of each transfer in the order of the decisions
abbrev pub entries_ticks : Graph → Schedule → Described → List ℕ
entries_ticks g s d =
    operations_ticks d.durations g.vertices (operators_of s.decisions (length g.vertices)) ++
    map (transfer_ticks g.vertices d.archi.media) (transfers_of s.decisions)

-- The refusal of the fault if there is one, and these ticks otherwise.
abbrev pub unless_fault : Option ActualFault → List ℕ → Result (List ℕ) ActualError
unless_fault (Some f) ticks = Err (Refused f)
unless_fault None ticks = Ok ticks

-- what is described for a schedule on an architecture, where operations are to last as long as the table says
abbrev pub actual_by : Graph → Architecture → Table → Schedule → Described → Result (List ℕ) ActualError
actual_by g a t s d =
    if same_architecture a d.archi then unless_fault (first_fault g a t s d) (entries_ticks g s d) else
    Err (Refused Differs)

-- What comes next for a text that describes an architecture, and otherwise the refusal of the text.
abbrev pub if_described : Result Described ArchiRefusal → (Described → Result (List ℕ) ActualError)
    → Result (List ℕ) ActualError
if_described (Ok d) next = next d
if_described (Err e) next = Err (text_error (error_of e))

-- what the bytes of a text of actual durations say
abbrev pub actual_of : Graph → Architecture → Table → Schedule → Bytes → Result (List ℕ) ActualError
actual_of g a t s text = if_described (description_of text) (actual_by g a t s)
