-- Definitions that are not refused make a tree within the bounds of a valid flat graph.
use Rattle.std.proofs.Common.{◌≡◌, ℕ, zero, suc, ◌+◌, ◌≤◌, ◌^◌, List, [], ◌∷◌, ◌++◌, map, length, Option, Some, None, refl, ap, sym, subst, arith, length-append}
use Rattle.std.specs.Prelude.{codes}
use Rattle.std.proofs.lemmas.List.{length-map}
use Rattle.level_meaning.specs.declared.source.Source.{Source}
use Rattle.level_meaning.specs.declared.part.Part.{Part}
use Rattle.level_meaning.specs.declared.part.Part.TheVariants.{Named, Numbered}
use Rattle.syn_base.specs.Bytes.{Bytes}
use Rattle.algo_rules.specs.declared.Port.{Port}
use Rattle.algo_rules.specs.Tree as tree
use Rattle.algo_rules.specs.View.{vertices_of}
use Rattle.algo_rules.specs.declared.Def.{Def}
use Rattle.algo_rules.specs.declared.Body.{Body}
use Rattle.algo_rules.specs.declared.Body.TheVariants.{Sensor, Actuator, Constant, Delay, Function, Graph, Switch, Repeat}
use Rattle.algo_rules.specs.declared.Output.{Output}
use Rattle.algo_rules.specs.declared.Reference.{Reference}
use Rattle.algo_rules.specs.declared.Edge.{Edge}
use Rattle.algo_rules.specs.Bounded.{IsPartBounded, IsKindBounded, IsBounded, AllBounded, HasBounds}
use Rattle.algo_rules.specs.Links.{definition}
use Rattle.algo_rules.specs.Ports.{ports_of, ports_by, lens_of}
use Rattle.algo_rules.specs.declared.ports.Ports.{Ports}
use Rattle.algo_rules.specs.Resolved.{Making, vertex_within, vertex_by, references_from, cases_from, owns, kind_by, inner_by, refusal, tree_of, sensor_count, actuator_count}
use Rattle.algo_rules.specs.WellRead.{IsWellRead, AreWellRead}
use Rattle.algo_laws.proofs.Refused.{has_none}
use Rattle.algo_laws.proofs.Accepted.{Accepted, accepted, own_ports}

as_many_lengths : (os : List Output) → length (lens_of (map (λ o. o.port) os)) ≡ length os
as_many_lengths [] = refl
as_many_lengths (o ∷ os) = ap suc (as_many_lengths os)

module _ (ds : List Def) (make : Making) where
  abbrev MakesBounded : Type 0
  MakesBounded = (part : Part) (w : Bytes) (ins : List Source) (s a : ℕ) → IsPartBounded part → IsBounded (make part w ins s a)

  references_bounded : MakesBounded → (ins : List Port) (all : List Reference) (edges : List Edge) (s a : ℕ) (rs : List Reference)
      → AllBounded (vertices_of (references_from ds make ins all edges s a rs))
  references_bounded h ins all edges s a [] = tt
  references_bounded h ins all edges s a (r ∷ rs) =
      (h (Named r.name) r.def _ s a tt, references_bounded h ins all edges (s + sensor_count (definition ds r.def)) (a + actuator_count (definition ds r.def)) rs)

  cases_bounded : MakesBounded → (ins c : ℕ) (ws : List Bytes) → c + length ws ≤ 2 ^ 32 → AllBounded (vertices_of (cases_from ds make ins c ws))
  cases_bounded h ins c [] few = tt
  cases_bounded h ins c (w ∷ ws) few = (h (Numbered c) w (owns 1 ins) 0 0 (omega (arith, few)), cases_bounded h ins (suc c) ws (omega (arith, few)))

  inner_bounded : MakesBounded → (b : Body) → IsWellRead b → AllBounded (vertices_of (inner_by ds make b))
  inner_bounded h (Sensor n) read = tt
  inner_bounded h (Actuator n) read = tt
  inner_bounded h (Constant values) read = tt
  inner_bounded h (Delay depth values) read = tt
  inner_bounded h (Function ins outs) read = tt
  inner_bounded h (Graph ins outs references edges) read = references_bounded h ins references edges 0 0 references
  inner_bounded h (Switch on ins outs cases otherwise last) read =
      let few = read.few in
      let all = length-append (map (λ c. c.def) cases) (otherwise ∷ []) in
      let same = length-map cases (λ c. c.def) in
      cases_bounded h (length ins) 0 (map (λ c. c.def) cases ++ otherwise ∷ []) (omega (arith, few, all, same))
  inner_bounded h (Repeat copies def lines) read = (h (Numbered 0) def _ 0 0 (omega arith), tt)

  kind_bounded : (of : Bytes → Ports) (own : Ports) (s a : ℕ) (b : Body) → IsWellRead b → IsKindBounded (kind_by ds make own s a b) (lens_of (ports_by of b).outs)
  kind_bounded of own s a (Sensor n) read = tt
  kind_bounded of own s a (Actuator n) read = tt
  kind_bounded of own s a (Constant values) read = tt
  kind_bounded of own s a (Delay depth values) read = tt
  kind_bounded of own s a (Function ins outs) read =
      let long = as_many_lengths outs in
      let same = length-map outs (λ o. o.port) in
      let some = read.some in
      let few = read.outputs.few in
      (omega (arith, long, some), omega (arith, long, same, few))
  kind_bounded of own s a (Graph ins outs references edges) read = tt
  kind_bounded of own s a (Switch on ins outs cases otherwise last) read = tt
  kind_bounded of own s a (Repeat copies def lines) read = let most = read.most in omega (arith, most)

  vertex_bounded : Accepted ds → MakesBounded → (part : Part) (w : Bytes) (ins : List Source) (s a : ℕ) → IsPartBounded part
      → (o : Option Def) → definition ds w ≡ o → IsBounded (vertex_by ds make part w ins s a o)
  vertex_bounded acc h part w ins s a p None e = (record { part = p; kind = tt }, tt)
  vertex_bounded acc h part w ins s a p (Some d) e =
      let read = acc.well_read w d e in
      let kind : IsKindBounded (kind_by ds make (ports_of ds w) s a d.body) (lens_of (ports_of ds w).outs) =
      subst (λ (own : Ports). IsKindBounded (kind_by ds make (ports_of ds w) s a d.body) (lens_of own.outs))
      (sym (own_ports ds acc.ranked w d e)) (kind_bounded (ports_of ds) (ports_of ds w) s a d.body read) in
      (record { part = p; kind = kind }, inner_bounded h d.body read)

within_bounded : (ds : List Def) → Accepted ds → (n : ℕ) → MakesBounded ds (vertex_within ds n)
within_bounded ds acc zero part w ins s a p = (record { part = p; kind = tt }, tt)
within_bounded ds acc (suc n) part w ins s a p = vertex_bounded ds (vertex_within ds n) acc (within_bounded ds acc n) part w ins s a p (definition ds w) refl

inside : (u : tree.Vertex) → IsBounded u → HasBounds u
inside (tree.vertex l us) h = h.1

pub have_bounds : (ds : List Def) → AreWellRead ds → refusal ds ≡ None → HasBounds (tree_of ds)
have_bounds ds read no_refusal = inside (tree_of ds) (within_bounded ds (accepted ds read (has_none ds no_refusal)) 8 (Named (codes "main")) (codes "main") [] 0 0 tt)
