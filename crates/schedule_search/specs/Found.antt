-- How long a schedule is that a search has found, and how fast its reactions follow each other, beside others.
use Rattle.std.specs.Prelude.{ℕ, ◌*◌, ◌≤◌, ◌<◌, IsTrue, length, map, sum, Option, is_some}
use Rattle.std.specs.List.{range_with_len}
use Rattle.self_timed.specs.Graph.{Graph}
use Rattle.self_timed.specs.Archi.{Architecture}
use Rattle.self_timed.specs.Table.{Table}
use Rattle.self_timed.specs.declared.Schedule.{Schedule}
use Rattle.self_timed.specs.Acts.{length_of}
use Rattle.self_timed.specs.Period.{period_of_schedule}
use Rattle.comm_routing.specs.Placing.{ticks_in}
use Rattle.pressure_heuristic.specs.Table.{RouteTable, IsTableOf}
use Rattle.pressure_heuristic.specs.Pressure.{pressure_run}
use Rattle.pressure_heuristic.specs.Tasks.{task}
use Rattle.plan_costs.specs.declared.site.Goal.{Goal}
use Rattle.plan_costs.specs.declared.site.Goal.TheVariants.{Length, Period}

-- The schedule is no longer than the pressure run over the least routes.
abbrev pub IsNoLongerThanRun : Graph → Architecture → Table → Schedule → Type 0
IsNoLongerThanRun g a d s = (r : RouteTable) → IsTableOf a r → length_of s ≤ length_of (pressure_run (task g a r d))

-- how long after the first half of 50 reactions the other 25 are done, where each act starts as soon as it may
abbrev pub last_half : Graph → Architecture → Schedule → ℕ
last_half g a s = (period_of_schedule g a s 50).ticks

-- The last half of the reactions of the schedule takes no longer than that of the pressure run over
-- the least routes.
abbrev pub IsNoSlowerThanRun : Graph → Architecture → Table → Schedule → Type 0
IsNoSlowerThanRun g a d s =
    (r : RouteTable) → IsTableOf a r → last_half g a s ≤ last_half g a (pressure_run (task g a r d))

-- what a search makes small, by its goal
abbrev pub measure : Goal → Graph → Architecture → Schedule → ℕ
measure Length g a s = length_of s
measure Period g a s = last_half g a s

-- and what it is at most on one operator, where all operations together last so long
abbrev pub measure_alone : Goal → ℕ → ℕ
measure_alone Length time = time
measure_alone Period time = 25 * time

module _ (g : Graph) (a : Architecture) (ticks : ℕ → ℕ → Option ℕ) where
  -- each operation may stand on this operator
  pub record MayAllStand (p : ℕ) : Type 0 where
    pub operator : p < length a.operators
    pub each : (v : ℕ) → v < length g.vertices → IsTrue (is_some (ticks v p))

  -- how long all operations last on this operator, one after another
  abbrev pub time_alone : ℕ → ℕ
  time_alone p = sum (map (λ v. ticks_in (ticks v p)) (range_with_len 0 (length g.vertices)))

  -- The schedule is no longer than all operations together on any operator on which all of them may
  -- stand.
  abbrev pub IsNoLongerThanAlone : Schedule → Type 0
  IsNoLongerThanAlone s = (p : ℕ) → MayAllStand p → length_of s ≤ time_alone p

  -- The last half of the reactions of the schedule takes no longer than 25 times all operations
  -- together on any operator on which all of them may stand.
  abbrev pub IsNoSlowerThanAlone : Schedule → Type 0
  IsNoSlowerThanAlone s = (p : ℕ) → MayAllStand p → last_half g a s ≤ 25 * time_alone p
