-- The vertex that is made of a definition is well formed.
use Rattle.std.proofs.Common.{◌≡◌, true, false, ℕ, zero, suc, ◌+◌, ◌<◌, ◌≤◌, Bool, List, [], ◌∷◌, ◌++◌, map, length, Option, Some, None, refl, ap, sym, subst, ◌∙◌, arith}
use Rattle.std.specs.Prelude.{◌==◌}
use Rattle.std.proofs.lemmas.Bool.{eqb-true}
use Rattle.level_meaning.specs.declared.source.Source.{Source}
use Rattle.level_meaning.specs.declared.part.Part.{Part}
use Rattle.level_meaning.specs.declared.part.Part.TheVariants.{Named, Numbered}
use Rattle.level_meaning.specs.Level.{same_part}
use Rattle.level_meaning.specs.Order.{IsAcyclic}
use Rattle.level_meaning.specs.Parts.{IsApart, HasDistinctParts}
use Rattle.syn_base.specs.Bytes.{Bytes}
use Rattle.algo_rules.specs.declared.Port.{Port}
use Rattle.algo_rules.specs.Tree as tree
use Rattle.algo_rules.specs.View.{vertices_of}
use Rattle.algo_rules.specs.Meaning.{node, nodes}
use Rattle.algo_rules.specs.Typed.{label_of}
use Rattle.algo_rules.specs.Well.{AreOwn, OwnGuards, AreCases, IsNumberedPart, AreNumbered, IsKindWell, IsWell, AllWell}
use Rattle.algo_rules.specs.declared.Def.{Def}
use Rattle.algo_rules.specs.declared.Body.{Body}
use Rattle.algo_rules.specs.declared.Body.TheVariants.{Sensor, Actuator, Constant, Delay, Function, Graph, Switch, Repeat}
use Rattle.algo_rules.specs.declared.Reference.{Reference}
use Rattle.algo_rules.specs.declared.Case.{Case}
use Rattle.algo_rules.specs.declared.Edge.{Edge}
use Rattle.algo_rules.specs.Links.{mentions_in, definition}
use Rattle.algo_rules.specs.Ports.{ports_of}
use Rattle.algo_rules.specs.declared.ports.Ports.{Ports}
use Rattle.algo_rules.specs.Resolved.{vertex_within, vertex_by, references_from, cases_from, sources_to, owns, kind_by, inner_by, body_fault, sensor_count, actuator_count}
use Rattle.algo_rules.specs.WellRead.{IsWellRead, IsGraph, port_names}
use Rattle.algo_laws.proofs.Firsts.{Each}
use Rattle.algo_laws.proofs.Lengths.{distinct_append}
use Rattle.algo_laws.proofs.Ends.{reference_line}
use Rattle.algo_laws.specs.Depths.{rank}
use Rattle.algo_laws.proofs.Accepted.{IsLower, Accepted}
use Rattle.algo_laws.proofs.Sized.{fine}
use Rattle.algo_laws.proofs.Cases.{all_own}
use Rattle.algo_laws.proofs.Acyclic.{acyclic, distinct_parts}
use Rattle.algo_laws.proofs.LineNames.{names_distinct}
use Rattle.algo_laws.proofs.Labels.{IsLabelled, labelled, node_part}
use Rattle.algo_laws.proofs.Typing.{graph_of, lower_cases, lower_lines}

cases_front : (u : tree.Vertex) (us : tree.Vertices) → AreOwn (label_of u).ins × OwnGuards (label_of u).guards → AreCases us → AreCases (tree.and_vertex u us)
cases_front (tree.vertex l vs) us h k = (h, k)

module _ (ds : List Def) (n : ℕ) where
  abbrev cases : ℕ → ℕ → List Bytes → tree.Vertices
  cases ins c ws = vertices_of (cases_from ds (vertex_within ds n) ins c ws)

  abbrev one : ℕ → ℕ → Bytes → tree.Vertex
  one ins c w = vertex_within ds n (Numbered c) w (owns 1 ins) 0 0

  case_label : (ins c : ℕ) (w : Bytes) → IsLabelled (Numbered c) (owns 1 ins) (one ins c w)
  case_label ins c w = labelled ds n (Numbered c) w (owns 1 ins) 0 0

  case_part : (ins c : ℕ) (w : Bytes) → (node (one ins c w)).part ≡ Numbered c
  case_part ins c w = node_part (one ins c w) ∙ (case_label ins c w).part_is

  as_many_cases : (ins c : ℕ) (ws : List Bytes) → length (nodes (cases ins c ws)) ≡ length ws
  as_many_cases ins c [] = refl
  as_many_cases ins c (w ∷ ws) = ap suc (as_many_cases ins (suc c) ws)

  are_numbered : (ins c : ℕ) (ws : List Bytes) → AreNumbered (nodes (cases ins c ws))
  are_numbered ins c [] = tt
  are_numbered ins c (w ∷ ws) = (subst IsNumberedPart (sym (case_part ins c w)) tt, are_numbered ins (suc c) ws)

  are_cases : (ins c : ℕ) (ws : List Bytes) → AreCases (cases ins c ws)
  are_cases ins c [] = tt
  are_cases ins c (w ∷ ws) =
      let is = case_label ins c w in
      cases_front (one ins c w) (cases ins (suc c) ws) (subst AreOwn (sym is.ins_are) (all_own 1 ins), subst OwnGuards (sym is.unguarded) tt) (are_cases ins (suc c) ws)

  other_number : (c d : ℕ) → c < d → same_part (Numbered c) (Numbered d) ≡ false
  other_number c d lt = by (c == d) refl
    where
      by : (b : Bool) → (c == d) ≡ b → b ≡ false
      by true e = let same = eqb-true c d e in absurd (omega arith)
      by false e = refl

  later_cases : (ins b c : ℕ) (ws : List Bytes) → b < c → IsApart (Numbered b) (nodes (cases ins c ws))
  later_cases ins b c [] lt = tt
  later_cases ins b c (w ∷ ws) lt =
      (subst (λ (p : Part). same_part (Numbered b) p ≡ false) (sym (case_part ins c w)) (other_number b c lt), later_cases ins b (suc c) ws (omega arith))

  distinct_cases : (ins c : ℕ) (ws : List Bytes) → HasDistinctParts (nodes (cases ins c ws))
  distinct_cases ins c [] = tt
  distinct_cases ins c (w ∷ ws) =
      (subst (λ (p : Part). IsApart p (nodes (cases ins (suc c) ws))) (sym (case_part ins c w)) (later_cases ins c (suc c) ws (omega arith)), distinct_cases ins (suc c) ws)

  -- what is made of definitions that are not too deep is well formed
  abbrev pub MakesWell : Type 0
  MakesWell = (part : Part) (w : Bytes) (d : Def) (ins : List Source) (s a : ℕ) → definition ds w ≡ Some d → rank ds w ≤ n → IsWell (vertex_within ds n part w ins s a)

  cases_well : MakesWell → (ins c : ℕ) (ws : List Bytes) → Each (IsLower ds (suc n)) ws → AllWell (cases ins c ws)
  cases_well ih ins c [] h = tt
  cases_well ih ins c (w ∷ ws) h = (ih (Numbered c) w h.0.0.0 (owns 1 ins) 0 0 h.0.0.1 (omega (arith, h.0.1)), cases_well ih ins (suc c) ws h.1)

  references_well : MakesWell → (ins : List Port) (all : List Reference) (edges : List Edge) (s a : ℕ) (rs : List Reference) → Each (λ m. IsLower ds (suc n) m.def) (map reference_line rs)
      → AllWell (vertices_of (references_from ds (vertex_within ds n) ins all edges s a rs))
  references_well ih ins all edges s a [] h = tt
  references_well ih ins all edges s a (r ∷ rs) h = (
    ih (Named r.name) r.def h.0.0.0 (sources_to (ports_of ds) ins all edges (Some r.name) (ports_of ds r.def).ins) s a h.0.0.1 (omega (arith, h.0.1)),
    references_well ih ins all edges (s + sensor_count (definition ds r.def)) (a + actuator_count (definition ds r.def)) rs h.1,
  )

as_many_values : (otherwise : Bytes) (cs : List Case) → length (map (λ c. c.def) cs ++ otherwise ∷ []) ≡ suc (length (map (λ c. c.value) cs))
as_many_values otherwise [] = refl
as_many_values otherwise (c ∷ cs) = ap suc (as_many_values otherwise cs)

-- the level of a graph
level_well : (ds : List Def) → Accepted ds → (n line : ℕ) (is os : List Port) (references : List Reference) (edges : List Edge)
    → IsGraph is os references → body_fault ds line (Graph is os references edges) ≡ None
    → Each (λ m. IsLower ds (suc n) m.def) (map reference_line references)
    → IsAcyclic (nodes (vertices_of (references_from ds (vertex_within ds n) is references edges 0 0 references)))
    × HasDistinctParts (nodes (vertices_of (references_from ds (vertex_within ds n) is references edges 0 0 references)))
level_well ds acc zero line is os [] edges read none h = (λ r lt. absurd (omega arith), tt)
level_well ds acc zero line is os (r ∷ rs) edges read none h = absurd (omega (arith, acc.ranked.positive r.def h.0.0.0 h.0.0.1, h.0.1))
level_well ds acc (suc n) line is os references edges read none h =
    let own : Ports = record { ins = is; outs = os } in
    let fits = graph_of ds acc (suc (suc n)) line is os references edges read none h in
    (acyclic ds n own references edges line fits.0.joined read.once fits.1, distinct_parts ds n own references edges 0 0 references read.once)

well_body : (ds : List Def) (acc : Accepted ds) (n : ℕ) → MakesWell ds n → (own : Ports) (s a line : ℕ) (b : Body) → IsWellRead b
    → body_fault ds line b ≡ None → Each (λ m. IsLower ds (suc n) m.def) (mentions_in line b)
    → IsKindWell (kind_by ds (vertex_within ds n) own s a b) [] (vertices_of (inner_by ds (vertex_within ds n) b)) × AllWell (vertices_of (inner_by ds (vertex_within ds n) b))
well_body ds acc n ih own s a line (Sensor len) read none h = (tt, tt)
well_body ds acc n ih own s a line (Actuator len) read none h = (tt, tt)
well_body ds acc n ih own s a line (Constant values) read none h = (tt, tt)
well_body ds acc n ih own s a line (Delay depth values) read none h = (tt, tt)
well_body ds acc n ih own s a line (Function is os) read none h = (tt, tt)
well_body ds acc n ih own s a line (Graph is os references edges) read none h =
    ((refl, level_well ds acc n line is os references edges read none h), references_well ds n ih is references edges 0 0 references h)
well_body ds acc n ih own s a line (Switch on is os cases otherwise last) read none h =
    let ws = map (λ c. c.def) cases ++ otherwise ∷ [] in (
      (
        (refl, (as_many_cases ds n (length is) 0 ws ∙ as_many_values otherwise cases, (distinct_cases ds n (length is) 0 ws, are_cases ds n (length is) 0 ws))),
        (are_numbered ds n (length is) 0 ws, (distinct_append (port_names is) (port_names os) read.distinct.1).1),
      ),
      cases_well ds n ih (length is) 0 ws (lower_cases ds (suc n) last otherwise cases h),
    )
well_body ds acc n ih own s a line (Repeat copies def lines) read none h = (
  (refl, ((omega (arith, read.some), tt), names_distinct (ports_of ds def) own lines read.distinct (ports_of ds def).ins (fine ds acc def h.0.0.0 h.0.0.1).distinct)),
  (ih (Numbered 0) def h.0.0.0 (owns 0 (length (ports_of ds def).ins)) 0 0 h.0.0.1 (omega (arith, h.0.1)), tt),
)

well_of : (ds : List Def) (acc : Accepted ds) (n : ℕ) → MakesWell ds n
    → (part : Part) (w : Bytes) (d : Def) (ins : List Source) (s a : ℕ) (o : Option Def) → o ≡ Some d → definition ds w ≡ Some d → rank ds w ≤ suc n
    → IsWell (vertex_by ds (vertex_within ds n) part w ins s a o)
well_of ds acc n ih part w d ins s a None is e le = cc
well_of ds acc n ih part w d ins s a (Some x) is e le =
    let same : d ≡ x = cc in
    subst (λ (y : Def). IsWell (vertex_by ds (vertex_within ds n) part w ins s a (Some y))) same
    (well_body ds acc n ih (ports_of ds w) s a d.line d.body (acc.well_read w d e) (acc.passed w d e) (lower_lines ds acc (suc n) w d e le))

pub well : (ds : List Def) (acc : Accepted ds) (n : ℕ) → MakesWell ds n
well ds acc zero part w d ins s a e le = absurd (omega (arith, acc.ranked.positive w d e))
well ds acc (suc n) part w d ins s a e le = well_of ds acc n (λ p v x i j k. well ds acc n p v x i j k) part w d ins s a (definition ds w) e e le
