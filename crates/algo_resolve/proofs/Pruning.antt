-- The pruned vertex of a definition, from what is pruned inside it.
use Rattle.std.proofs.Common.{◌≡◌, ℕ, zero, suc, ◌+◌, ◌==◌, Bool, true, false, List, [], ◌∷◌, ◌++◌, length, map, Option, Some, None, refl, sym, ap, ap₂, subst, ◌∙◌}
use Rattle.std.proofs.lemmas.Bool.{eqb-true}
use Rattle.body_lang.specs.declared.expression.Port.{Port}
use Rattle.syn_base.specs.Bytes.{Bytes}
use Rattle.algo_laws.specs.Counted.{operations}
use Rattle.algo_laws.specs.Tree as tree
use Rattle.algo_laws.specs.View.{kind_view, vertices_of, view}
use Rattle.algo_laws.specs.declared.Source.{Source}
use Rattle.algo_laws.specs.declared.Part.{Part}
use Rattle.algo_laws.specs.declared.Part.TheVariants.{Named, Numbered}
use Rattle.algo_laws.specs.declared.Case.{Case}
use Rattle.algo_laws.specs.declared.Vertex.{Vertex}
use Rattle.algo_laws.specs.declared.Kind.{Kind}
use Rattle.algo_laws.specs.declared.Def.{Def}
use Rattle.algo_laws.specs.declared.Body.{Body}
use Rattle.algo_laws.specs.declared.Body.TheVariants.{Sensor, Actuator, Constant, Delay, Function, Graph, Switch, Repeat}
use Rattle.algo_laws.specs.declared.Edge.{Edge}
use Rattle.algo_laws.specs.declared.Reference.{Reference}
use Rattle.algo_laws.specs.declared.Ports.{Ports}
use Rattle.algo_laws.specs.RuleLinks.{definition}
use Rattle.algo_laws.specs.Ports.{lens_of, ports_of}
use Rattle.algo_laws.specs.Resolved.{Making, actuator_count, cases_from, count_within, inner_by, kind_by, owns, references_from, refusal, sensor_count, sources_to, vertex, vertex_by, vertex_within}
use Rattle.algo_laws.specs.Typed.{label_of}
use Rattle.algo_laws.specs.WellRead.{AreWellRead}
use Rattle.algo_laws.proofs.Accepted.{accepted}
use Rattle.algo_laws.proofs.Counting.{counted_within}
use Rattle.algo_laws.proofs.Refused.{has_none}
use Rattle.wiring_laws.specs.Definitions.{leads_within}
use Rattle.wiring_laws.specs.Pruned.{own_of, passing, prune, prune_all, pruned}
use Rattle.wiring_laws.specs.Wiring.{wiring}
use Rattle.wiring_laws.proofs.Definitions.{wiring-within}
use Rattle.wiring_laws.proofs.Prunable.{prune-idle, prune-live}
use Rattle.algo_resolve.specs.Rounds.{pruned_within}

-- vertices inside a vertex
prune-inside : (us : List tree.Vertex) → prune_all (vertices_of us) ≡ vertices_of (map prune us)
prune-inside [] = refl
prune-inside (u ∷ us) = ap (tree.and_vertex (prune u)) (prune-inside us)

cut-inside : (part : Part) (w : Bytes) (ins : List Source) (outs : List Port) (k : tree.Kind) (us : List tree.Vertex) → pruned (vertex part w ins outs k us) ≡ vertex part w ins outs k (map prune us)
cut-inside part w ins outs k us =
    ap (tree.vertex (record { part = part; definition = w; ins = ins; guards = []; outs = lens_of outs; names = map (λ (p : Port). p.name) outs; kind = k })) (prune-inside us)

module _ (ds : List Def) (make : Making) where
  abbrev cut : Making
  cut part w ins s a = prune (make part w ins s a)

  references-cut : (ins : List Port) (all : List Reference) (edges : List Edge) (s a : ℕ) (rs : List Reference)
      → map prune (references_from ds make ins all edges s a rs) ≡ references_from ds cut ins all edges s a rs
  references-cut ins all edges s a [] = refl
  references-cut ins all edges s a (r ∷ rs) =
      ap (λ (us : List tree.Vertex). cut (Named r.name) r.def
      (sources_to (ports_of ds) ins all edges (Some r.name) (ports_of ds r.def).ins) s a ∷ us)
      (references-cut ins all edges (s + sensor_count (definition ds r.def)) (a + actuator_count (definition ds r.def)) rs)

  cases-cut : (ins c : ℕ) (ws : List Bytes) → map prune (cases_from ds make ins c ws) ≡ cases_from ds cut ins c ws
  cases-cut ins c [] = refl
  cases-cut ins c (w ∷ ws) = ap (λ (us : List tree.Vertex). cut (Numbered c) w (owns 1 ins) 0 0 ∷ us) (cases-cut ins (suc c) ws)

  inner-cut : (b : Body) → map prune (inner_by ds make b) ≡ inner_by ds cut b
  inner-cut (Sensor n) = refl
  inner-cut (Actuator n) = refl
  inner-cut (Constant values) = refl
  inner-cut (Delay depth values) = refl
  inner-cut (Function ins outs) = refl
  inner-cut (Graph ins outs references edges) = references-cut ins references edges 0 0 references
  inner-cut (Switch on ins outs cases otherwise last) = cases-cut (length ins) 0 (map (λ (c : Case). c.def) cases ++ otherwise ∷ [])
  inner-cut (Repeat copies def lines) = refl

module _ (ds : List Def) (n : ℕ) (part : Part) (w : Bytes) (ins : List Source) (s a : ℕ) (d : Def) (at : definition ds w ≡ Some d) where
  whole : vertex_within ds (suc n) part w ins s a ≡ vertex part w ins (ports_of ds w).outs (kind_by ds (vertex_within ds n) (ports_of ds w) s a d.body) (inner_by ds (vertex_within ds n) d.body)
  whole = ap (vertex_by ds (vertex_within ds n) part w ins s a) at

  -- with what is inside it pruned
  pub live-step : (kind : Kind) (inner : List Vertex) → kind_view kind ≡ kind_by ds (vertex_within ds n) (ports_of ds w) s a d.body → map view inner ≡ inner_by ds (pruned_within ds n) d.body
      → vertex part w ins (ports_of ds w).outs (kind_view kind) (map view inner) ≡ pruned (vertex_within ds (suc n) part w ins s a)
  live-step kind inner kinds inners =
      ap₂ (λ (k : tree.Kind) (us : List tree.Vertex). vertex part w ins (ports_of ds w).outs k us) kinds (inners ∙ sym (inner-cut ds (vertex_within ds n) d.body))
      ∙ sym (cut-inside part w ins (ports_of ds w).outs (kind_by ds (vertex_within ds n) (ports_of ds w) s a d.body) (inner_by ds (vertex_within ds n) d.body))
      ∙ ap pruned (sym whole)

  -- if it stands for no operation
  pub idle-step : AreWellRead ds → refusal ds ≡ None → (count_within ds (suc n) w == 0) ≡ true
      → vertex part w ins (ports_of ds w).outs (tree.graph (map own_of (leads_within ds (suc n) w))) [] ≡ pruned_within ds (suc n) part w ins s a
  idle-step read none idle =
      let u = vertex_within ds (suc n) part w ins s a in
      let count = counted_within ds (accepted ds read (has_none ds none)) (suc n) part w ins s a in
      sym (prune-idle u (count ∙ eqb-true (count_within ds (suc n) w) 0 idle)
      ∙ ap₂ passing (ap label_of whole) (wiring-within ds (suc n) part w ins s a))

  -- if it stands for some
  pub some-step : AreWellRead ds → refusal ds ≡ None → (count_within ds (suc n) w == 0) ≡ false
      → pruned (vertex_within ds (suc n) part w ins s a) ≡ pruned_within ds (suc n) part w ins s a
  some-step read none some =
      let u = vertex_within ds (suc n) part w ins s a in
      let count = counted_within ds (accepted ds read (has_none ds none)) (suc n) part w ins s a in
      sym (live u (ap (λ (m : ℕ). m == 0) count ∙ some))
    where
      live : (v : tree.Vertex) → (operations v == 0) ≡ false → prune v ≡ pruned v
      live (tree.vertex l us) e = prune-live (tree.vertex l us) e

-- the same, at any number that is one more
pub idle-vertex : (ds : List Def) (m n : ℕ) (part : Part) (w : Bytes) (ins : List Source) (s a : ℕ) (d : Def) → m ≡ suc n → definition ds w
    ≡ Some d → AreWellRead ds → refusal ds ≡ None → (count_within ds m w == 0) ≡ true
    → vertex part w ins (ports_of ds w).outs (tree.graph (map own_of (leads_within ds m w))) [] ≡ pruned_within ds m part w ins s a
idle-vertex ds m n part w ins s a d is at read none =
    subst (λ (k : ℕ). (count_within ds k w == 0) ≡ true → vertex part w ins (ports_of ds w).outs (tree.graph (map own_of (leads_within ds k w))) [] ≡ pruned_within ds k part w ins s a) (sym is)
    (idle-step ds n part w ins s a d at read none)

pub live-vertex : (ds : List Def) (m n : ℕ) (part : Part) (w : Bytes) (ins : List Source) (s a : ℕ) (d : Def) → m ≡ suc n → definition ds w
    ≡ Some d → AreWellRead ds → refusal ds ≡ None → (count_within ds m w == 0) ≡ false
    → pruned (vertex_within ds (suc n) part w ins s a) ≡ pruned_within ds m part w ins s a
live-vertex ds m n part w ins s a d is at read none some =
    some-step ds n part w ins s a d at read none (ap (λ (k : ℕ). count_within ds k w == 0) (sym is) ∙ some)
    ∙ ap (λ (k : ℕ). pruned_within ds k part w ins s a) (sym is)
