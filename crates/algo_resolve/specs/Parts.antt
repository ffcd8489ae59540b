-- A graph with the definitions that its references name.
use Rattle.std.specs.Prelude.{◌≡◌, List, map, None, Some}
use Rattle.std.specs.List.{range_with_len}
use Rattle.syn_base.specs.Bytes.{Bytes}
use Rattle.algo_laws.specs.declared.Def.{Def}
use Rattle.algo_laws.specs.declared.Ports.{Ports}
use Rattle.algo_laws.specs.Ports.{ports_of}
use Rattle.algo_laws.specs.Placed.{ArePlaced}
use Rattle.algo_laws.specs.Resolved.{refusal, sources_to}
use Rattle.algo_laws.specs.WellRead.{AreWellRead}
use Rattle.algo_resolve.specs.Rounds.{passing_view, round}
use Rattle.algo_resolve.specs.Ready.{IsReady}
use Rattle.algo_resolve.specs.Plans.{plan_of, plan_view}
use Rattle.algo_resolve.specs.declared.checked.Checked.{Checked}
use Rattle.algo_resolve.specs.declared.builder.Builder.{Builder}
use Rattle.algo_resolve.specs.declared.builder.WiredGraph.{WiredGraph}
use Rattle.algo_resolve.specs.declared.sources.Graph.{Graph}

abbrev pub AreReady : Checked → Type 0
AreReady b = IsReady b.defs.now b.links.now b.table.now

-- The definitions have passed all checks and are ready; each has its plan, and it is known what it passes on.
pub record ArePlanned (b : Builder) : Type 0 where
  pub read : AreWellRead b.defs.now
  pub passed : refusal b.defs.now ≡ None
  pub ready : IsReady b.defs.now b.links.now b.table.now
  pub plans : map plan_view b.plans.now ≡ map (plan_of b.defs.now) b.defs.now
  pub rounds : map (map passing_view) b.rounds.now ≡ map (round b.defs.now) (range_with_len 0 9)

-- The definitions of the references stand at their places, and their inputs are wired.
pub record IsWired (b : Builder) (g : WiredGraph) : Type 0 where
  pub placed : ArePlaced b.defs.now b.table.now (map (λ r. r.def) g.references.now) g.places.now
  pub wires : g.wires.now ≡
      map (λ r. sources_to (ports_of b.defs.now) g.ins.now g.references.now g.edges.now (Some r.name)
      (ports_of b.defs.now r.def).ins) g.references.now

abbrev pub all : Graph → List Def
all g = g.checked.defs.now

abbrev pub of : Graph → Bytes → Ports
of g = ports_of (all g)

-- The definitions of the references stand at their places.
abbrev pub IsPlacedGraph : Graph → Type 0
IsPlacedGraph g = ArePlaced (all g) g.checked.table.now (map (λ r. r.def) g.references.now) g.places.now
