-- What a command asks for once all its files are read and accepted, and which schedules may be found for it.
use Rattle.std.specs.Prelude.{◌≡◌, ◌≢◌, ℕ, IsTrue}
use Rattle.syn_base.specs.Bytes.{Bytes}
use Rattle.self_timed.specs.Archi.{Architecture as Archi}
use Rattle.self_timed.specs.Table.{Table, entry_in}
use Rattle.self_timed.specs.Graph.{Graph}
use Rattle.self_timed.specs.declared.Schedule.{Schedule}
use Rattle.self_timed.specs.ScheduleValid.{is_valid}
use Rattle.schedule_search.specs.Found.{
  IsNoLongerThanAlone,
  IsNoLongerThanRun,
  IsNoSlowerThanAlone,
  IsNoSlowerThanRun,
}
use Rattle.top_plans.specs.Adequation.{IsPressureRun}
use Rattle.lab_words.specs.Command.{Effort, Form, Subject, for_length, for_period}

-- What is to be scheduled: the operations, the architecture, how long each operation lasts on each operator, and how a
-- schedule is searched.
pub record Request : Type 0 where
  pub graph : Graph
  pub archi : Archi
  pub table : Table
  pub effort : Effort

-- a text by itself; something of a schedule; or the dates of so many reactions of one in a form, by a text of the
-- durations that really occur
pub data Asked : Type 0 where
  of_text : Bytes → Asked
  of_schedule : Subject → Request → Asked
  of_dates : Form → Request → Bytes → ℕ → Asked

-- A schedule that a search may find: it is valid. Where the length is the goal, it is no longer than the pressure run
-- over the least routes, and where the period is the goal, the last half of 50 reactions takes no longer than that of
-- the run. Where nothing is tried it is that run; else all operations on one operator are no shorter, or no faster.
pub record IsFound (p : Request) (s : Schedule) : Type 0 where
  pub valid : IsTrue (is_valid p.graph p.archi (entry_in p.table) s)
  pub shorter : p.effort.goal ≡ for_length → IsNoLongerThanRun p.graph p.archi p.table s
  pub faster : p.effort.goal ≡ for_period → IsNoSlowerThanRun p.graph p.archi p.table s
  pub alone : p.effort.goal ≡ for_length → p.effort.tries ≢ 0 →
      IsNoLongerThanAlone p.graph p.archi (entry_in p.table) s
  pub faster_alone : p.effort.goal ≡ for_period → p.effort.tries ≢ 0 →
      IsNoSlowerThanAlone p.graph p.archi (entry_in p.table) s
  pub none : p.effort.tries ≡ 0 → IsPressureRun p.graph p.archi p.table s

-- the schedule may be found for what is asked for; a text by itself is that of none
abbrev pub IsFoundFor : Asked → Schedule → Type 0
IsFoundFor (of_text text) s = Unit {0}
IsFoundFor (of_schedule subject p) s = IsFound p s
IsFoundFor (of_dates form p text n) s = IsFound p s
