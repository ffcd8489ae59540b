-- Drafts: those under way, and those in which nothing is left to place.
use Rattle.std.specs.Prelude.{◌≡◌, IsTrue, List, [], length}
use Rattle.std.specs.List.{filter, range_with_len}
use Rattle.comm_routing.specs.Task.{Task}
use Rattle.comm_routing.specs.Given.{IsTask}
use Rattle.comm_routing.specs.Laws.{AreRight}
use Rattle.comm_routing.specs.Placing.{is_candidate}
use Rattle.comm_routing.specs.Draft.{Drafted, task_of}
use Rattle.pressure_heuristic.specs.Table.{IsTableOf}
use Rattle.plan_costs.specs.declared.site.Goal.{Goal}
use Rattle.plan_costs.specs.declared.site.Site.{Site}
use Rattle.self_timed.specs.Fitting.{IsOf}
use Rattle.self_timed.specs.declared.Decision.{Decision}
use Rattle.self_timed.specs.declared.Schedule.{Schedule}
use Rattle.self_timed.specs.Acts.{acts_of}
use Rattle.self_timed.specs.ScheduleValid.{is_valid}
use Rattle.schedule_search.specs.declared.measured.Measured.{Measured}
use Rattle.schedule_search.specs.Found.{measure}

-- no operation may be placed next
abbrev pub IsDone : Task → List Decision → Type 0
IsDone t ds = filter (is_candidate t (acts_of ds)) (range_with_len 0 (length t.graph.vertices)) ≡ []

-- decisions that are right and leave no candidate are a valid schedule
abbrev pub DraftsAreValid : Type 0
DraftsAreValid = (t : Task) → IsTask t → (ds : List Decision) → AreRight t ds → IsDone t ds
    → IsTrue (is_valid t.graph t.archi t.ticks (record { decisions = ds }))

-- what a draft is made on: durations of the flat graph and the architecture, whose routes these are
pub record IsSite (s : Site) : Type 0 where
  pub fits : IsOf s.flat.now s.archi.now s.durations.now
  pub routes : IsTableOf s.archi.now s.routes.now

-- nothing is decided so far
abbrev pub opened : Site → Drafted
opened s = record {
  graph = s.flat.now;
  archi = s.archi.now;
  routes = s.routes.now;
  durations = s.durations.now;
  decisions = [];
}

abbrev pub site_task : Site → Task
site_task s = task_of (opened s)

-- a draft whose decisions so far are right
pub record IsUnderWay (d : Drafted) : Type 0 where
  pub given : IsTask (task_of d)
  pub right : AreRight (task_of d) d.decisions

abbrev pub IsValidIn : Task → Schedule → Type 0
IsValidIn t s = IsTrue (is_valid t.graph t.archi t.ticks s)

-- a schedule with its measure, by this goal
pub record IsMeasured (s : Site) (goal : Goal) (m : Measured) : Type 0 where
  pub valid : IsValidIn (site_task s) m.schedule
  pub measure : m.measure ≡ measure goal s.flat.now s.archi.now m.schedule
