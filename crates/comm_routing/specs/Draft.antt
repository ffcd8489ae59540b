-- A draft: what is placed on what, and the decisions so far.
use Rattle.std.specs.Prelude.{
  ◌≡◌,
  ℕ,
  ◌+◌,
  ◌*◌,
  ◌<◌,
  ◌≤◌,
  true,
  List,
  [],
  ◌∷◌,
  ◌++◌,
  All,
  length,
  map,
  is_none,
  if◌then◌else◌,
  Option,
  Some,
  None,
  slice_index_or,
  refl,
}
use Rattle.std.specs.Coded.{Coded, code_by, coded×}
use Rattle.route_table.specs.Table.{RouteTable, route_in, IsTableOf}
use Rattle.schedule.specs.declared.Source.{Source}
use Rattle.schedule.specs.Graph.{Graph}
use Rattle.schedule.specs.Archi.{Architecture}
use Rattle.schedule.specs.Table.{Table, entry_in}
use Rattle.schedule.specs.declared.decision.Decision.{Decision}
use Rattle.schedule.specs.Acts.{acts_of}
use Rattle.comm_routing.specs.Task.{Task}
use Rattle.comm_routing.specs.Given.{IsTask}
use Rattle.comm_routing.specs.Laws.{AreRight}
use Rattle.comm_routing.specs.Placing.{arrival, decision, is_candidate, ticks_in}
use Rattle.comm_routing.specs.Board.{Board}
use Rattle.comm_routing.specs.Start.{reads_of}
use Rattle.comm_routing.specs.Tables.{Tells}
use Rattle.comm_routing.specs.Dependents.{AreDependents}
use Rattle.comm_routing.specs.Candidates.{HasSize, flag_at, kept_at, places_from, ready_in}
use Rattle.comm_routing.specs.declared.site.Site.{Site}
use Rattle.comm_routing.specs.declared.candidates.Candidates.{Candidates}

-- A draft: the graph to be scheduled, the architecture with its routes, the durations, and the
-- decisions that were made so far, in their order.
pub record Drafted : Type 0 where
  pub graph : Graph
  pub archi : Architecture
  pub routes : RouteTable
  pub durations : Table
  pub decisions : List Decision

-- a draft is stored as the tuple of its parts
abbrev pub draft_code : Coded Graph → Coded Architecture → Coded RouteTable → Coded Table → Coded (List Decision)
    → Coded Drafted
draft_code graph archi routes durations decisions =
    code_by (Graph × (Architecture × (RouteTable × (Table × List Decision))))
    (coded× graph (coded× archi (coded× routes (coded× durations decisions))))
    (λ d. (d.graph, (d.archi, (d.routes, (d.durations, d.decisions)))))
    (λ p. record {
      graph = p.0;
      archi = p.1.0;
      routes = p.1.1.0;
      durations = p.1.1.1.0;
      decisions = p.1.1.1.1;
    })
    (λ _. refl)

-- what is scheduled in it
abbrev pub task_of : Drafted → Task
task_of d = record { graph = d.graph; archi = d.archi; route = route_in d.routes; ticks = entry_in d.durations }

-- what is given once, whatever was decided
pub record IsSite (d : Drafted) : Type 0 where
  pub given : IsTask (task_of d)
  pub routes : IsTableOf d.archi d.routes
  pub rows : length d.durations.rows ≡ length d.graph.vertices
  pub columns : d.durations.operators ≡ length d.archi.operators
  pub bounded : (v o : ℕ) → ticks_in (entry_in d.durations v o) ≤ 1000000000
  pub operations : length d.graph.vertices ≤ 2048
  pub operators : length d.archi.operators ≤ 16
  pub media : length d.archi.media ≤ 16

-- all dates of the tables are at most this
pub record IsLow (bound : ℕ) (b : Board) : Type 0 where
  pub held : (i : ℕ) → ticks_in (slice_index_or b.held i None) ≤ bound
  pub ends : (m : ℕ) → slice_index_or b.ends m 0 ≤ bound
  pub busy : (o : ℕ) → slice_index_or b.busy o 0 ≤ bound
  pub ended : (v : ℕ) → slice_index_or b.ended v 0 ≤ bound

-- how much one decision raises the dates at most
abbrev pub rise : ℕ
rise = 300000000000000

-- how many places are free
abbrev pub nones : List (Option ℕ) → ℕ
nones [] = 0
nones (o ∷ os) = if is_none o then 1 + nones os else nones os

-- The decisions are right, the tables tell of them, and all dates are low.
pub record IsTold (d : Drafted) (b : Board) (reads : List (List Source)) : Type 0 where
  pub site : IsSite d
  pub right : AreRight (task_of d) d.decisions
  pub tells : Tells (task_of d) (acts_of d.decisions) b
  pub reads_are : reads ≡ map reads_of d.graph.vertices
  pub few_reads : All (λ r. length r ≤ 131072) reads
  pub low : IsLow (rise * length d.decisions) b
  pub firsts : length b.first ≡ length d.graph.vertices
  pub counted : length d.decisions + nones b.places ≡ length d.graph.vertices

-- Candidates are those after the decisions, and so are the arrivals that are kept of them.
pub record Keeps (d : Drafted) (b : Board) (reads : List (List Source)) (c : Candidates) : Type 0 where
  pub told : IsTold d b reads
  pub size : HasSize (length d.graph.vertices) c
  pub flags : (v : ℕ) → v < length d.graph.vertices
      → flag_at c v ≡ is_candidate (task_of d) (acts_of d.decisions) v
  pub ready : ready_in c ≡ places_from 0 c.ready.flags.items
  pub dependents : AreDependents d.graph.vertices c.dependents.items
  pub arrivals : (v p n : ℕ) → v < length d.graph.vertices → flag_at c v ≡ true
      → p < length d.archi.operators → kept_at c v p ≡ Some n
      → n ≡ arrival (task_of d) (acts_of d.decisions) v p

-- what is given, with these decisions
abbrev pub drafted : Site → List Decision → Drafted
drafted s ds = record {
  graph = s.flat.now;
  archi = s.archi.now;
  routes = s.routes.now;
  durations = s.durations.now;
  decisions = ds;
}

-- the draft with one more decision
abbrev pub after_placing : Drafted → ℕ → ℕ → Drafted
after_placing d v p = record {
  graph = d.graph;
  archi = d.archi;
  routes = d.routes;
  durations = d.durations;
  decisions = d.decisions ++ decision (task_of d) (acts_of d.decisions) v p ∷ [];
}
