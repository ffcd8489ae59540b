-- Drafts in which all operations are placed on one operator.
use Rattle.std.specs.Prelude.{
  ℕ,
  ◌+◌,
  ◌≤◌,
  Bool,
  IsTrue,
  if◌then◌else◌,
  List,
  [],
  ◌∷◌,
  length,
  Option,
  Some,
  None,
  IsSomeAnd,
  sum_by,
}
use Rattle.std.specs.List.{list_all, range_with_len}
use Rattle.comm_routing.specs.Task.{Task}
use Rattle.comm_routing.specs.Placing.{is_placed, ticks_in}
use Rattle.self_timed.specs.declared.Decision.{Decision}
use Rattle.self_timed.specs.declared.Schedule.{Schedule}
use Rattle.self_timed.specs.Acts.{acts, acts_of, is_on, latest, length_of}
use Rattle.self_timed.specs.Entries.{stated}
use Rattle.plan_costs.specs.declared.site.Goal.{Goal}
use Rattle.schedule_search.specs.Found.{MayAllStand, measure_alone, time_alone}

-- the sum of these numbers of those that do not pass
abbrev pub time_left : (ℕ → ℕ) → (ℕ → Bool) → List ℕ → ℕ
time_left f test [] = 0
time_left f test (x ∷ xs) = if test x then time_left f test xs else (f x + time_left f test xs)

-- So far all stand on this operator, and with what is left to do there it is done in time.
pub record SoFar (t : Task) (p : ℕ) (ds : List Decision) : Type 0 where
  pub on : IsTrue (list_all (is_on p) (acts_of ds))
  pub within :
      latest (acts_of ds)
      + time_left (λ v. ticks_in (t.ticks v p)) (is_placed (acts_of ds)) (range_with_len 0 (length t.graph.vertices))
      ≤ time_alone t.graph t.archi t.ticks p
  pub lasting :
      sum_by stated (acts_of ds)
      + time_left (λ v. ticks_in (t.ticks v p)) (is_placed (acts_of ds)) (range_with_len 0 (length t.graph.vertices))
      ≤ time_alone t.graph t.archi t.ticks p

-- each operation may stand on this operator
abbrev pub MayAllStandOn : Task → ℕ → Type 0
MayAllStandOn t p = MayAllStand t.graph t.archi t.ticks p

-- A schedule on one operator alone: it is no longer than all operations there, and they last together no longer.
pub record IsLone (t : Task) (p : ℕ) (s : Schedule) : Type 0 where
  pub long : length_of s ≤ time_alone t.graph t.archi t.ticks p
  pub on : IsTrue (list_all (is_on p) (acts s))
  pub lasting : sum_by stated (acts s) ≤ time_alone t.graph t.archi t.ticks p

-- where all operations may stand on this operator, there is such a schedule
abbrev pub IsAlone : Task → ℕ → Option Schedule → Type 0
IsAlone t p o = MayAllStandOn t p → IsSomeAnd o (IsLone t p)

-- where they may, the number is at most the measure there
abbrev pub IsLowOn : Task → Goal → ℕ → ℕ → Type 0
IsLowOn t goal p n = MayAllStandOn t p → n ≤ measure_alone goal (time_alone t.graph t.archi t.ticks p)

abbrev pub IsLowAlone : Task → Goal → ℕ → Type 0
IsLowAlone t goal n = (p : ℕ) → IsLowOn t goal p n

-- the number, where the test passes
abbrev pub when : Bool → ℕ → Option ℕ
when b n = if b then Some n else None
