-- The lengths of values fit in the vertex that is made of a definition.
use Rattle.std.proofs.Common.{◌≡◌, false, ℕ, zero, suc, ◌+◌, ◌*◌, ◌/◌, ◌≤◌, ℤ, drop, List, [], ◌∷◌, ◌++◌, map, length, Option, Some, None, refl, ap, sym, subst, ◌∙◌, arith}
use Rattle.std.specs.List.{All, flat_map}
use Rattle.std.proofs.lemmas.List.{length-drop, length-map, length-take}
use Rattle.level_meaning.specs.declared.source.Source.{Source}
use Rattle.level_meaning.specs.declared.part.Part.{Part}
use Rattle.level_meaning.specs.declared.part.Part.TheVariants.{Named, Numbered}
use Rattle.syn_base.specs.Bytes.{Bytes}
use Rattle.algo_rules.specs.Expr.{PortsBelow}
use Rattle.algo_rules.specs.declared.Port.{Port}
use Rattle.algo_rules.specs.View.{vertices_of}
use Rattle.algo_rules.specs.Typed.{label_of, outs_of, source_length, AreGuardsTyped, AllPortsBelow, AreGroups, AllGive, AllFed, given_length, IsTyped, AllTyped}
use Rattle.algo_rules.specs.Well.{AreDistinctNames}
use Rattle.algo_rules.specs.declared.Def.{Def}
use Rattle.algo_rules.specs.declared.Body.{Body}
use Rattle.algo_rules.specs.declared.Body.TheVariants.{Sensor, Actuator, Constant, Delay, Function, Graph, Switch, Repeat}
use Rattle.algo_rules.specs.declared.Output.{Output}
use Rattle.algo_rules.specs.declared.Reference.{Reference}
use Rattle.algo_rules.specs.declared.Case.{Case}
use Rattle.algo_rules.specs.declared.Edge.{Edge}
use Rattle.algo_rules.specs.Links.{Mention, mentions, mentions_in, definition}
use Rattle.algo_rules.specs.Ports.{ports_of, ports_by, lens_of, outer_ports}
use Rattle.algo_rules.specs.declared.ports.Ports.{Ports}
use Rattle.algo_rules.specs.Graphs.{edge_faults, open_faults, cycle_fault}
use Rattle.algo_rules.specs.Resolved.{
  groups,
  vertex,
  vertex_within,
  vertex_by,
  references_from,
  cases_from,
  sources_to,
  owns,
  kind_by,
  inner_by,
  feed_of,
  give_by,
  body_fault,
  sensor_count,
  actuator_count,
}
use Rattle.algo_rules.specs.WellRead.{IsWellRead, IsGraph, port_names}
use Rattle.algo_laws.proofs.Firsts.{Each, none_both, none_append}
use Rattle.algo_laws.proofs.Lengths.{distinct_append}
use Rattle.algo_laws.proofs.Ends.{reference_line, case_line}
use Rattle.algo_laws.specs.Depths.{rank}
use Rattle.algo_laws.proofs.Accepted.{IsLower, Accepted, own_ports}
use Rattle.algo_laws.proofs.Sized.{AreFine, fine}
use Rattle.algo_laws.proofs.Joined.{GraphFits, IsSupplied, out_lens, graph_fits}
use Rattle.algo_laws.proofs.Cases.{IsAlike, switch_fits, case_lengths}
use Rattle.algo_laws.proofs.Frontiers.{repeat_fits, given, all_fed, all_fed_lengths}
use Rattle.algo_laws.proofs.Labels.{labelled, label_outs, references_outs}

-- the names of a switch's cases and of what is taken otherwise are less deep
pub lower_cases : (ds : List Def) (n last : ℕ) (otherwise : Bytes) (cs : List Case)
    → Each (λ m. IsLower ds n m.def) (map case_line cs ++ record { line = last; def = otherwise; is_reference = false } ∷ [])
    → Each (IsLower ds n) (map (λ c. c.def) cs ++ otherwise ∷ [])
lower_cases ds n last otherwise [] h = (h.0, tt)
lower_cases ds n last otherwise (c ∷ cs) h = (h.0, lower_cases ds n last otherwise cs h.1)

-- the inputs of references have distinct names
pub inputs_distinct : (ds : List Def) → Accepted ds → (n : ℕ) (rs : List Reference)
    → Each (λ m. IsLower ds n m.def) (map reference_line rs) → Each (λ r. AreDistinctNames (port_names (ports_of ds r.def).ins)) rs
inputs_distinct ds acc n [] h = tt
inputs_distinct ds acc n (r ∷ rs) h = ((fine ds acc r.def h.0.0.0 h.0.0.1).distinct, inputs_distinct ds acc n rs h.1)

pub graph_of : (ds : List Def) → Accepted ds → (n line : ℕ) (ins outs : List Port) (references : List Reference) (edges : List Edge) → IsGraph ins outs references
    → body_fault ds line (Graph ins outs references edges) ≡ None → Each (λ m. IsLower ds n m.def) (map reference_line references)
    → GraphFits (ports_of ds) (record { ins = ins; outs = outs }) references edges × (cycle_fault ds references line edges ≡ None)
graph_of ds acc n line ins outs references edges read none h =
    let own : Ports = record { ins = ins; outs = outs } in
    let a = none_append (edge_faults (ports_of ds) own references [] edges ++ open_faults (ports_of ds) own references line edges) (cycle_fault ds references line edges ∷ []) none in
    let b = none_append (edge_faults (ports_of ds) own references [] edges) (open_faults (ports_of ds) own references line edges) a.0 in
    let c = none_both (cycle_fault ds references line edges) [] a.1 in
    (graph_fits (ports_of ds) own references line edges b.0 b.1 (distinct_append (port_names ins) (port_names outs) read.distinct).1 read.once (inputs_distinct ds acc n references h), c.0)

as_many_formulas : (os : List Output) → length (map (λ o. o.formula) os) ≡ length (lens_of (map (λ o. o.port) os))
as_many_formulas [] = refl
as_many_formulas (o ∷ os) = ap suc (as_many_formulas os)

formulas_below : (n : ℕ) (os : List Output) → All (λ o. PortsBelow n o.formula) os → AllPortsBelow n (map (λ o. o.formula) os)
formulas_below n [] h = tt
formulas_below n (o ∷ os) h = (h 0 o (omega arith), formulas_below n os (λ k d lt. h (suc k) d (omega arith)))

-- values cut into as many groups as they make
pub as_many_groups : (depth len : ℕ) (values : List ℤ) → length (groups depth len values) ≡ depth
as_many_groups zero len values = refl
as_many_groups (suc n) len values = ap suc (as_many_groups n len (drop len values))

groups_fit : (depth len : ℕ) (values : List ℤ) → length values ≡ depth * len → AreGroups (len ∷ []) (groups depth len values)
groups_fit zero len values whole = tt
groups_fit (suc n) len values whole = (
  ap (λ (m : ℕ). m ∷ []) (omega (arith, whole, length-take len values)),
  groups_fit n len (drop len values) (omega (arith, whole, length-drop len values)),
)

as_many_names : (ps : List Port) → length (map (λ p. p.name) ps) ≡ length (lens_of ps)
as_many_names [] = refl
as_many_names (p ∷ ps) = ap suc (as_many_names ps)

module _ (ds : List Def) (acc : Accepted ds) (n : ℕ) where
  -- what is made of definitions that are not too deep is typed
  abbrev pub MakesTyped : Type 0
  MakesTyped = (part : Part) (w : Bytes) (d : Def) (ins : List Source) (s a : ℕ) → definition ds w ≡ Some d → rank ds w ≤ n → IsTyped (lens_of (ports_of ds w).ins) (vertex_within ds n part w ins s a)

  typed_at : MakesTyped → (own : List ℕ) (outs : List (List ℕ)) (part : Part) (w : Bytes) (ins : List Source) (s a : ℕ)
      → IsLower ds (suc n) w → map (source_length own outs) ins ≡ lens_of (ports_of ds w).ins
      → AreGuardsTyped (source_length own outs) (label_of (vertex_within ds n part w ins s a)).guards
      × IsTyped (map (source_length own outs) (label_of (vertex_within ds n part w ins s a)).ins) (vertex_within ds n part w ins s a)
  typed_at ih own outs part w ins s a low e =
      let is = labelled ds n part w ins s a in
      let lens : lens_of (ports_of ds w).ins ≡ map (source_length own outs) (label_of (vertex_within ds n part w ins s a)).ins = sym (ap (map (source_length own outs)) is.ins_are ∙ e) in (
        subst (AreGuardsTyped (source_length own outs)) (sym is.unguarded) tt,
        subst (λ (ns : List ℕ). IsTyped ns (vertex_within ds n part w ins s a)) lens (ih part w low.0.0 ins s a low.0.1 (omega (arith, low.1))),
      )

  references_typed : MakesTyped → (own : Ports) (all : List Reference) (edges : List Edge) (s a : ℕ) (rs : List Reference) → Each (λ m. IsLower ds (suc n) m.def) (map reference_line rs)
      → Each (IsSupplied (ports_of ds) own all edges) rs → AllTyped (lens_of own.ins) (out_lens (ports_of ds) all) (vertices_of (references_from ds (vertex_within ds n) own.ins all edges s a rs))
  references_typed ih own all edges s a [] h fed = tt
  references_typed ih own all edges s a (r ∷ rs) h fed = (
    typed_at ih (lens_of own.ins) (out_lens (ports_of ds) all) (Named r.name) r.def (sources_to (ports_of ds) own.ins all edges (Some r.name) (ports_of ds r.def).ins) s a h.0 fed.0,
    references_typed ih own all edges (s + sensor_count (definition ds r.def)) (a + actuator_count (definition ds r.def)) rs h.1 fed.1,
  )

  cases_typed : MakesTyped → (ins outs : List Port) (c : ℕ) (ws : List Bytes) → Each (IsLower ds (suc n)) ws → Each (IsAlike (ports_of ds) ins outs) ws
      → AllTyped (1 ∷ lens_of ins) [] (vertices_of (cases_from ds (vertex_within ds n) (length ins) c ws))
  cases_typed ih ins outs c [] h k = tt
  cases_typed ih ins outs c (w ∷ ws) h k =
      (typed_at ih (1 ∷ lens_of ins) [] (Numbered c) w (owns 1 (length ins)) 0 0 h.0 (case_lengths 1 ins ∙ sym k.0.0), cases_typed ih ins outs (suc c) ws h.1 k.1)

  cases_give : (ins outs : List Port) (c : ℕ) (ws : List Bytes) → Each (IsLower ds (suc n)) ws → Each (IsAlike (ports_of ds) ins outs) ws
      → AllGive (lens_of outs) (outs_of (vertices_of (cases_from ds (vertex_within ds n) (length ins) c ws)))
  cases_give ins outs c [] h k = tt
  cases_give ins outs c (w ∷ ws) h k =
      (label_outs ds acc n (Numbered c) w h.0.0.0 (owns 1 (length ins)) 0 0 h.0.0.1 (omega (arith, h.0.1)) ∙ k.0.1, cases_give ins outs (suc c) ws h.1 k.1)

  abbrev BodyTyped : Part → Bytes → List Source → ℕ → ℕ → Body → Ports → Type 0
  BodyTyped part w ins s a b own = IsTyped (lens_of own.ins) (vertex part w ins own.outs (kind_by ds (vertex_within ds n) own s a b) (inner_by ds (vertex_within ds n) b))

  typed_body : MakesTyped → (part : Part) (w : Bytes) (ins : List Source) (s a line : ℕ) (b : Body) → IsWellRead b → body_fault ds line b
      ≡ None → Each (λ m. IsLower ds (suc n) m.def) (mentions_in line b)
      → AreFine (ports_by (ports_of ds) b) → BodyTyped part w ins s a b (ports_by (ports_of ds) b)
  typed_body ih part w ins s a line (Sensor len) read none h fine = ((fine.ins, fine.outs), (refl, refl))
  typed_body ih part w ins s a line (Actuator len) read none h fine = ((fine.ins, fine.outs), (refl, refl))
  typed_body ih part w ins s a line (Constant values) read none h fine = ((fine.ins, fine.outs), (refl, refl))
  typed_body ih part w ins s a line (Delay depth values) read none h fine =
      ((fine.ins, fine.outs), (refl, (omega (arith, read.some, as_many_groups depth (length values / depth) values), groups_fit depth (length values / depth) values read.whole)))
  typed_body ih part w ins s a line (Function is os) read none h fine = (
    (fine.ins, fine.outs),
    (
      as_many_formulas os,
      subst (λ (k : ℕ). AllPortsBelow k (map (λ o. o.formula) os)) (sym (length-map is (λ p. p.len))) (formulas_below (length is) os read.formulas),
    ),
  )
  typed_body ih part w ins s a line (Graph is os references edges) read none h fine =
      let own : Ports = record { ins = is; outs = os } in
      let fits = (graph_of ds acc (suc n) line is os references edges read none h).0 in
      let us = vertices_of (references_from ds (vertex_within ds n) is references edges 0 0 references) in
      let outs_are : out_lens (ports_of ds) references ≡ outs_of us = sym (references_outs ds acc n is references edges 0 0 references h) in (
        (fine.ins, fine.outs),
        (
          subst (λ (nss : List (List ℕ)). AllTyped (lens_of is) nss us) outs_are (references_typed ih own references edges 0 0 references h fits.ins),
          subst (λ (nss : List (List ℕ)). lens_of os ≡ map (source_length (lens_of is) nss) (sources_to (ports_of ds) is references edges None os)) outs_are (sym fits.outs),
        ),
      )
  typed_body ih part w ins s a line (Switch on is os cases otherwise last) read none h fine =
      let low = lower_cases ds (suc n) last otherwise cases h in
      let fits = switch_fits (ports_of ds) is os cases otherwise last none in
      let ws = map (λ c. c.def) cases ++ otherwise ∷ [] in
      ((fine.ins, fine.outs), ((refl, cases_typed ih is os 0 ws low fits), (cases_give is os 0 ws low fits, as_many_names os)))
  typed_body ih part w ins s a line (Repeat copies def lines) read none h all_fine =
      let body : Ports = ports_of ds def in
      let own : Ports = outer_ports copies body lines in
      let fits = repeat_fits copies body line lines none in
      let inner = fine ds acc def h.0.0.0 h.0.0.1 in
      let u = vertex_within ds n (Numbered 0) def (owns 0 (length body.ins)) 0 0 in
      let outs_are : lens_of body.outs ≡ (label_of u).outs = sym (label_outs ds acc n (Numbered 0) def h.0.0.0 (owns 0 (length body.ins)) 0 0 h.0.0.1 (omega (arith, h.0.1))) in
      let feeds = map (λ p. feed_of body own lines p.name) body.ins in
      let gives = flat_map (λ l. give_by body own l.frontier) lines in (
        (all_fine.ins, all_fine.outs),
        (
          (
            subst (λ (ns : List ℕ). AllFed copies (lens_of own.ins) ns feeds) outs_are (all_fed copies body lines fits read.distinct),
            subst (λ (ns : List ℕ). IsTyped ns u) (sym (all_fed_lengths copies body lines fits read.distinct inner.distinct))
                (ih (Numbered 0) def h.0.0.0 (owns 0 (length body.ins)) 0 0 h.0.0.1 (omega (arith, h.0.1))),
          ),
          subst (λ (ns : List ℕ). lens_of own.outs ≡ map (given_length copies ns) gives) outs_are (given copies body own lines),
        ),
      )

each_less : (ds : List Def) (n m : ℕ) → m ≤ n → (ms : List Mention) → Each (λ x. IsLower ds m x.def) ms → Each (λ x. IsLower ds n x.def) ms
each_less ds n m le [] h = tt
each_less ds n m le (x ∷ ms) h = ((h.0.0, omega (arith, h.0.1)), each_less ds n m le ms h.1)

pub lower_lines : (ds : List Def) → Accepted ds → (n : ℕ) (w : Bytes) (d : Def) → definition ds w ≡ Some d → rank ds w ≤ n → Each (λ m. IsLower ds n m.def) (mentions d)
lower_lines ds acc n w d e le = each_less ds n (rank ds w) le (mentions d) (acc.ranked.lower w d e)

typed_of : (ds : List Def) (acc : Accepted ds) (n : ℕ) → MakesTyped ds acc n
    → (part : Part) (w : Bytes) (d : Def) (ins : List Source) (s a : ℕ) (o : Option Def) → o ≡ Some d → definition ds w ≡ Some d → rank ds w ≤ suc n
    → IsTyped (lens_of (ports_of ds w).ins) (vertex_by ds (vertex_within ds n) part w ins s a o)
typed_of ds acc n ih part w d ins s a None is e le = cc
typed_of ds acc n ih part w d ins s a (Some x) is e le =
    let same : d ≡ x = cc in
    let own = own_ports ds acc.ranked w d e in
    subst (λ (y : Def). IsTyped (lens_of (ports_of ds w).ins) (vertex_by ds (vertex_within ds n) part w ins s a (Some y))) same
    (subst (BodyTyped ds acc n part w ins s a d.body) (sym own)
    (typed_body ds acc n ih part w ins s a d.line d.body (acc.well_read w d e) (acc.passed w d e) (lower_lines ds acc (suc n) w d e le) (subst AreFine own (fine ds acc w d e))))

pub typed : (ds : List Def) (acc : Accepted ds) (n : ℕ) → MakesTyped ds acc n
typed ds acc zero part w d ins s a e le = absurd (omega (arith, acc.ranked.positive w d e))
typed ds acc (suc n) part w d ins s a e le = typed_of ds acc n (λ p v x i j k. typed ds acc n p v x i j k) part w d ins s a (definition ds w) e e le
