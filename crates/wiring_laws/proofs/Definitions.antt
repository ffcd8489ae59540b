-- The outputs of all vertices of a definition lead to the same inputs.
use Rattle.std.proofs.Common.{◌≡◌, ℕ, zero, suc, ◌+◌, List, [], ◌∷◌, map, Option, Some, None, refl, ap, ap₂}
use Rattle.algo_tree.specs.declared.Source.{Source}
use Rattle.algo_tree.specs.declared.Part.{Part}
use Rattle.algo_rules.specs.declared.Port.{Port}
use Rattle.algo_rules.specs.declared.Def.{Def}
use Rattle.algo_rules.specs.declared.Edge.{Edge}
use Rattle.algo_rules.specs.declared.Reference.{Reference}
use Rattle.algo_rules.specs.declared.Body.{Body}
use Rattle.algo_rules.specs.declared.Body.TheVariants.{Sensor, Actuator, Constant, Delay, Function, Graph, Switch, Repeat}
use Rattle.syn_base.specs.Bytes.{Bytes}
use Rattle.algo_rules.specs.Links.{definition}
use Rattle.algo_rules.specs.Ports.{ports_of}
use Rattle.algo_rules.specs.Resolved.{Making, sensor_count, actuator_count, sources_to, references_from, kind_by, inner_by, vertex_by, vertex_within}
use Rattle.algo_tree.specs.View.{vertices_of}
use Rattle.wiring_laws.specs.Wiring.{leads_by, lead, wiring, wire, wires}
use Rattle.wiring_laws.specs.Definitions.{body_leads_by, leads_in, leads_within}

-- a making whose vertices lead so, with these sources of their inputs
abbrev MakesSo : Making → (Bytes → List (Option ℕ)) → Type 0
MakesSo make of = (p : Part) (w : Bytes) (ins : List Source) (s a : ℕ) → wire (make p w ins s a) ≡ record { ins = ins; leads = of w }

module _ (ds : List Def) (make : Making) (of : Bytes → List (Option ℕ)) (makes : MakesSo make of) where
  references-lead : (ins : List Port) (all : List Reference) (edges : List Edge) (s a : ℕ) (rs : List Reference)
      → wires (vertices_of (references_from ds make ins all edges s a rs))
      ≡ map (λ r. record { ins = sources_to (ports_of ds) ins all edges (Some r.name) (ports_of ds r.def).ins; leads = of r.def }) rs
  references-lead ins all edges s a [] = refl
  references-lead ins all edges s a (r ∷ rs) =
      ap₂ (λ w ws. w ∷ ws) (makes _ r.def (sources_to (ports_of ds) ins all edges (Some r.name) (ports_of ds r.def).ins) s a)
      (references-lead ins all edges (s + sensor_count (definition ds r.def)) (a + actuator_count (definition ds r.def)) rs)

  body-leads : (b : Body) (w : Bytes) (s a : ℕ) → leads_by (kind_by ds make (ports_of ds w) s a b) (wires (vertices_of (inner_by ds make b))) ≡ body_leads_by ds of (ports_of ds w) b
  body-leads (Graph ins outs references edges) w s a =
      ap (λ ws. map (lead ws) (sources_to (ports_of ds) ins references edges None outs)) (references-lead ins references edges 0 0 references)
  body-leads (Repeat copies def lines) w s a = ap (λ x. leads_by (kind_by ds make (ports_of ds w) s a (Repeat copies def lines)) (x ∷ [])) (makes _ def _ 0 0)
  body-leads (Switch on ins outs cases otherwise last) w s a = refl
  body-leads (Sensor n) w s a = refl
  body-leads (Actuator n) w s a = refl
  body-leads (Constant values) w s a = refl
  body-leads (Delay depth values) w s a = refl
  body-leads (Function ins outs) w s a = refl

  made-so : (o : Option Def) (p : Part) (w : Bytes) (ins : List Source) (s a : ℕ) → wire (vertex_by ds make p w ins s a o) ≡ record { ins = ins; leads = leads_in ds of (ports_of ds w) o }
  made-so None p w ins s a = refl
  made-so (Some d) p w ins s a = ap (λ os. record { ins = ins; leads = os }) (body-leads d.body w s a)

pub within-so : (ds : List Def) (n : ℕ) → MakesSo (vertex_within ds n) (leads_within ds n)
within-so ds zero p w ins s a = refl
within-so ds (suc n) p w ins s a = made-so ds (vertex_within ds n) (leads_within ds n) (within-so ds n) (definition ds w) p w ins s a

pub wiring-within : (ds : List Def) (n : ℕ) (p : Part) (w : Bytes) (ins : List Source) (s a : ℕ) → wiring (vertex_within ds n p w ins s a) ≡ leads_within ds n w
wiring-within ds n p w ins s a = ap (λ x. x.leads) (within-so ds n p w ins s a)
