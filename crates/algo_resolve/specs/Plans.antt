-- What all vertices of a definition have in common.
use Rattle.std.specs.Prelude.{ℕ, List, [], ◌∷◌, length, map, Some}
use Rattle.syn_base.specs.Bytes.{Bytes}
use Rattle.algo_laws.specs.declared.Source.{Source}
use Rattle.algo_laws.specs.declared.Guard.{Guard}
use Rattle.algo_laws.specs.Tree.{Kind}
use Rattle.algo_laws.specs.View.{kind_view}
use Rattle.algo_laws.specs.declared.Def.{Def}
use Rattle.algo_laws.specs.declared.Body.{Body}
use Rattle.algo_laws.specs.declared.Body.TheVariants.{Graph, Switch, Repeat}
use Rattle.algo_laws.specs.Ports.{lens_of, ports_of}
use Rattle.algo_laws.specs.Resolved.{kind_by, owns, sources_to, vertex_within}
use Rattle.algo_laws.specs.declared.Ports.{Ports}
use Rattle.algo_resolve.specs.declared.plan.Plan.{Plan}

-- The sources of the inputs of what is inside: for each reference of a graph its own, and one list for all cases of a
-- switch, or for the body of a repetition.
abbrev pub wires_by : List Def → Body → List (List Source)
wires_by ds (Graph ins outs references edges) =
    map (λ r. sources_to (ports_of ds) ins references edges (Some r.name) (ports_of ds r.def).ins) references
wires_by ds (Switch on ins outs cases otherwise last) = owns 1 (length ins) ∷ []
wires_by ds (Repeat copies def lines) = owns 0 (length (ports_of ds def).ins) ∷ []
wires_by ds _ = []

-- A plan as plain data.
pub record Planned : Type 0 where
  pub definition : Bytes
  pub outs : List ℕ
  pub names : List Bytes
  pub guards : List Guard
  pub kind : Kind
  pub wires : List (List Source)

-- What vertices of this name, ports and kind have in common.
abbrev pub planned : Bytes → Ports → Kind → List (List Source) → Planned
planned w own k ws = record {
  definition = w;
  outs = lens_of own.outs;
  names = map (λ p. p.name) own.outs;
  guards = [];
  kind = k;
  wires = ws;
}

-- The plan of a definition: its name and its ports, its kind, in which the number of a sensor or an actuator is 0, and
-- its wires.
abbrev pub plan_of : List Def → Def → Planned
plan_of ds d =
    planned d.name (ports_of ds d.name) (kind_by ds (vertex_within ds 0) (ports_of ds d.name) 0 0 d.body)
    (wires_by ds d.body)

abbrev pub plan_view : Plan → Planned
plan_view p = record {
  definition = p.definition;
  outs = p.outs;
  names = p.names;
  guards = p.guards;
  kind = kind_view p.kind;
  wires = p.wires;
}
