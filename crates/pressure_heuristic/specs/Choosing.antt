-- What is chosen, step by step: an operator for a candidate, and a candidate.
use Rattle.std.specs.Prelude.{
  ◌≡◌,
  ℕ,
  ◌<◌,
  ◌≤◌,
  true,
  List,
  ◌∷◌,
  length,
  if◌then◌else◌,
  nat_le,
  nat_lt,
  Option,
  Some,
  None,
  slice_index_or,
}
use Rattle.schedule.specs.Table.{Table}
use Rattle.schedule.specs.Acts.{Act}
use Rattle.comm_routing.specs.Task.{Task}
use Rattle.comm_routing.specs.Placing.{decision, may_place}
use Rattle.comm_routing.specs.Draft.{Drafted, task_of}
use Rattle.pressure_heuristic.specs.Choice.{first_least, first_greatest}
use Rattle.pressure_heuristic.specs.Pressure.{tail, pressure, best_operator, urgency, next}
use Rattle.pressure_heuristic.specs.declared.choice.Stand.{Stand}
use Rattle.pressure_heuristic.specs.declared.choice.Choice.{Choice}
use Rattle.pressure_heuristic.specs.declared.choice.Next.{Next}

-- by operation, its tail
abbrev pub AreTails : Task → List ℕ → Type 0
AreTails t tails = (v : ℕ) → v < length t.graph.vertices → slice_index_or tails v 0 ≡ tail t v

-- the first of least pressure among these operators, with its pressure
abbrev pub IsLeastStand : Task → List Act → ℕ → List ℕ → Option Stand → Type 0
IsLeastStand t before v ps None = first_least (pressure t before v) ps ≡ None
IsLeastStand t before v ps (Some s) =
    (first_least (pressure t before v) ps ≡ Some s.operator) × (s.pressure ≡ pressure t before v s.operator)

-- the operator of least pressure of an operation, with that pressure
abbrev pub operator_of_stand : Option Stand → Option ℕ
operator_of_stand None = None
operator_of_stand (Some s) = Some s.operator

pub record IsChoice (t : Task) (before : List Act) (c : Choice) : Type 0 where
  pub operator : operator_of_stand c.stand ≡ best_operator t before c.op
  pub pressure : c.pressure ≡ urgency t before c.op

-- the first of greatest least pressure among these operations
abbrev pub IsGreatestChoice : Task → List Act → List ℕ → Option Choice → Type 0
IsGreatestChoice t before vs None = first_greatest (urgency t before) vs ≡ None
IsGreatestChoice t before vs (Some c) = (first_greatest (urgency t before) vs ≡ Some c.op) × IsChoice t before c

-- what a choice is made by: the durations of the draft, and the tails
pub record IsGuide (d : Drafted) (table : Table) (tails : List ℕ) : Type 0 where
  pub same : table ≡ d.durations
  pub tails_are : AreTails (task_of d) tails
  pub size : length tails ≡ length d.graph.vertices
  pub low : (v : ℕ) → slice_index_or tails v 0 ≤ 2048000000000
  pub columns : table.operators ≡ length d.archi.operators
  pub rows : length table.rows ≡ length d.graph.vertices

abbrev pub pressure_of : Option Stand → ℕ
pressure_of None = 0
pressure_of (Some s) = s.pressure

abbrev pub lower_stand : Stand → Option Stand → Stand
lower_stand s None = s
lower_stand s (Some later) = if nat_lt later.pressure s.pressure then later else s

-- the later one of two choices where its pressure is greater
abbrev pub higher_choice : Option Choice → Choice → Choice
higher_choice None c = c
higher_choice (Some earlier) c = if nat_le c.pressure earlier.pressure then earlier else c

-- the best choice so far is the choice of its operation
abbrev pub IsBest : Task → List Act → Option Choice → Type 0
IsBest t before None = Unit {0}
IsBest t before (Some c) = IsChoice t before c

-- the best choice so far, and operations behind it
abbrev pub with_best : Option Choice → List ℕ → List ℕ
with_best None vs = vs
with_best (Some c) vs = c.op ∷ vs

-- with operation v the best choice is that one, whatever stands behind it
abbrev pub Leads : Task → List Act → Option Choice → ℕ → Option Choice → Type 0
Leads t before best v after =
    (vs : List ℕ) → first_greatest (urgency t before) (with_best after vs)
    ≡ first_greatest (urgency t before) (with_best best (v ∷ vs))

abbrev pub next_of : ℕ → Option Stand → Option Next
next_of v None = None
next_of v (Some s) = Some (record { op = v; operator = s.operator })

-- the next decision is that of this operation on this operator, which may be placed there
abbrev pub IsNext : Task → List Act → Option Next → Type 0
IsNext t before None = next t before ≡ None
IsNext t before (Some n) =
    (next t before ≡ Some (decision t before n.op n.operator)) × (may_place t before n.op n.operator ≡ true)
