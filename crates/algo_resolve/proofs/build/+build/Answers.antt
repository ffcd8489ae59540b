use Rattle.std.proofs.Common.{◌≡◌, ◌==◌, ◌≤◌, ◌+◌, ◌-◌, ◌∷◌, ◌++◌, [], suc, ℕ, List, Some, true, false, get_or, length, map, slice_get, refl, sym, ap, ap₂, subst, ◌∙◌, arith, rules, length-append}
use Rattle.std.proofs.lemmas.List.{length-map}
use Rattle.std.proofs.lemmas.Option.{slice_get-get_or}
use Rattle.std.specs.Global.{Vec}
use Rattle.body_lang.specs.declared.expression.Port.{Port}
use Rattle.algo_check.specs.Linked.{named}
use Rattle.syn_base.specs.Bytes.{Bytes}
use Rattle.algo_laws.specs.declared.Source.{Source}
use Rattle.algo_laws.specs.declared.Part.TheVariants.{Named}
use Rattle.algo_laws.specs.declared.Body.{Body}
use Rattle.algo_laws.specs.declared.Body.TheVariants.{Switch}
use Rattle.algo_laws.specs.declared.Case.{Case}
use Rattle.algo_laws.specs.declared.Def.{Def}
use Rattle.algo_laws.specs.RuleLinks.{definition}
use Rattle.algo_laws.specs.Placed.{ArePlaced, IsPlaced}
use Rattle.algo_laws.specs.Tree.{graph}
use Rattle.algo_laws.specs.Ports.{ports_of}
use Rattle.algo_laws.specs.Resolved.{actuator_count, cases_from, count_within, inner_by, owns, sensor_count, sources_to, vertex, vertex_within}
use Rattle.algo_laws.specs.View.{kind_view, view}
use Rattle.algo_laws.specs.declared.Vertex.{Vertex}
use Rattle.algo_check.proofs.Inside.{there}
use Rattle.wiring_laws.specs.Definitions.{leads_within}
use Rattle.algo_resolve.specs.Parts.{ArePlanned}
use Rattle.algo_resolve.specs.Rounds.{Passed, passed, passing_view, pruned_within}
use Rattle.algo_resolve.specs.declared.builder.Builder.{Builder}
use Rattle.algo_resolve.specs.declared.build.Label.{Label}
use Rattle.algo_resolve.specs.declared.build.Seat.{Seat}
use Rattle.algo_resolve.specs.declared.passing.Passing.{Passing}
use Rattle.algo_resolve.specs.declared.plan.Plan.{Plan}
use Rattle.body_check.proofs.Places.{one_more}
use Rattle.algo_resolve.proofs.Placed.{def_at, place_at, place_there}
use Rattle.algo_resolve.specs.Plans.{Planned, wires_by}
use Rattle.algo_resolve.proofs.Planned.{beside, plan_at, plan_below, planned_kind, shared_by}
use Rattle.algo_resolve.proofs.Rounds.{by-name, passing-at, round-at, round-long, rounds-long}
use Rattle.algo_resolve.proofs.Pruning.{idle-vertex, live-step, live-vertex}
use Rattle.algo_resolve.proofs.Steps.{all_cases, inner_at, named_at, one_case, one_copy, one_reference, only_wire, owns_itself, owns_long}
use Rattle.algo_resolve.proofs.Told.{follows, retold}
use Rattle.algo_resolve.proofs.build.+build.Goals as goal

pub build_cases-name-name-requires : goal.build_cases-name-name-requires
build_cases-name-name-requires t c =
    let b = c.args.builder.now in omega (arith, one_more b.defs.now b.table.now c.args.names.now.otherwise.now c.args.names.now.cases.now c.args.places.now c.requires.placed)

pub build_cases-build_vertex-requires : goal.build_cases-build_vertex-requires
build_cases-build_vertex-requires t c =
    let b = c.args.builder.now in
    (search (rules), (c.requires.planned, (named_at b.defs.now b.table.now _ c.args.places.now c.loop-number.number _ c.requires.placed c.name-name.ensures, c.requires.shallow)))

pub build_references-bounds-graph-at : goal.build_references-bounds-graph-at
build_references-bounds-graph-at t c =
    let b = c.args.builder.now in
    let g = c.args.graph.now in place_there b.defs.now b.table.now g.references.now g.places.now c.requires.wired.placed c.loop-at.at c.loop-at-test.true

pub build_references-build_vertex-requires : goal.build_references-build_vertex-requires
build_references-build_vertex-requires t c =
    let b = c.args.builder.now in
    let g = c.args.graph.now in
    let there = place_at b.defs.now b.table.now g.references.now g.places.now c.requires.wired.placed c.loop-at.at c.reference-item.result c.loop-at-test.true c.reference-item.is in
    (search (rules), (c.requires.planned, (there, c.requires.shallow)))

pub build_references-bounds-builder-place : goal.build_references-bounds-builder-place
build_references-bounds-builder-place t c =
    let b = c.args.builder.now in
    let g = c.args.graph.now in
    let there = place_at b.defs.now b.table.now g.references.now g.places.now c.requires.wired.placed c.loop-at.at c.reference-item.result c.loop-at-test.true c.reference-item.is in
    there.below

pub build_references-loop-at-preserved : goal.build_references-loop-at-preserved
build_references-loop-at-preserved t c =
    let b = c.args.builder.now in
    let g = c.args.graph.now in
    let ds = b.defs.now in
    let r = c.reference-item.result in
    let l = c.loop-at in
    let place = get_or g.places.now l.at 0 in
    let there = place_at ds b.table.now g.references.now g.places.now c.requires.wired.placed l.at r c.loop-at-test.true c.reference-item.is in
    let def = def_at ds b.table.now r.def place c.index-builder-place.result there in
    let sensors : c.sensors_of.result ≡ sensor_count (definition ds r.def) = c.sensors_of.ensures.is ∙ ap sensor_count (sym def) in
    let actuators : c.actuators_of.result ≡ actuator_count (definition ds r.def) = c.actuators_of.ensures.is ∙ ap actuator_count (sym def) in
    let wire : get_or g.wires.now l.at c.index-graph-at.result ≡ sources_to (ports_of ds) g.ins.now g.references.now g.edges.now (Some r.name) (ports_of ds r.def).ins =
    sym c.index-graph-at.is
    ∙ beside (λ x. sources_to (ports_of ds) g.ins.now g.references.now g.edges.now (Some x.name) (ports_of ds x.def).ins) g.wires.now g.references.now l.at r c.index-graph-at.result
    c.requires.wired.wires c.loop-at-test.true c.reference-item.is c.index-graph-at.is in
    let made =
    c.in_ok-build_vertex.ensures
    ∙ ap (λ (s : Seat). pruned_within ds c.args.fuel s.part r.def s.ins s.sensor s.actuator) c.in_ok-seat.ensures
    ∙ ap (λ (ws : List Source). pruned_within ds c.args.fuel (Named r.name) r.def ws l.sensors l.actuators) wire in
    record {
      so_far =
          rw c.in_ok-push.ensures.items
          (one_reference ds (pruned_within ds c.args.fuel) g.ins.now g.references.now g.edges.now g.references.now l.at r l.sensors l.actuators
          (l.sensors + c.sensors_of.result) (l.actuators + c.actuators_of.result) l.inner.items c.in_ok-build_vertex.field-0 _
          c.loop-at-test.true c.reference-item.is (ap (λ (k : ℕ). l.sensors + k) sensors) (ap (λ (k : ℕ). l.actuators + k) actuators)
          made l.invariant.so_far);
      few_sensors = omega (arith, c.sensors_of.ensures.one, l.invariant.few_sensors);
      few_actuators = omega (arith, c.actuators_of.ensures.one, l.invariant.few_actuators);
    }

pub build_live-bounds-builder-place-2 : goal.build_live-bounds-builder-place-2
build_live-bounds-builder-place-2 t c =
    let b = c.args.builder.now in plan_below b.defs.now b.plans.now c.args.place c.requires.planned.plans c.requires.placed.below

pub build_vertex-bounds-builder-fuel : goal.build_vertex-bounds-builder-fuel
build_vertex-bounds-builder-fuel t c =
    let b = c.args.builder.now in
    let long = rounds-long b.defs.now 9 b.rounds.now c.requires.planned.rounds in
    omega (arith, long, c.requires.shallow)

pub build_vertex-bounds-as_slice-place : goal.build_vertex-bounds-as_slice-place
build_vertex-bounds-as_slice-place t c =
    let b = c.args.builder.now in
    let them = round-at b.defs.now 9 b.rounds.now c.args.fuel c.index-builder-fuel.result c.requires.planned.rounds (omega (arith, c.requires.shallow)) c.index-builder-fuel.is in
    let long = ap (λ (xs : List Passing). length xs) (c.as_slice.ensures ∙ sym c.index-builder-fuel.is) ∙ round-long b.defs.now c.args.fuel c.index-builder-fuel.result them in
    omega (arith, long, c.requires.placed.below)

pub build_vertex-bounds-builder-place : goal.build_vertex-bounds-builder-place
build_vertex-bounds-builder-place t c =
    let b = c.args.builder.now in plan_below b.defs.now b.plans.now c.args.place c.requires.planned.plans c.requires.placed.below

-- what is known of the definition that stands there
known : (b : Builder) → ArePlanned b → (w : Bytes) (place fuel : ℕ) (them xs : List Passing) (x : Passing) → IsPlaced b.defs.now b.table.now w place → fuel ≤ 8 → them ≡ get_or b.rounds.now fuel them
    → xs ≡ them → x ≡ get_or xs place x → (d : Def) × ((slice_get b.defs.now place ≡ Some d) × (passing_view x ≡ passed (count_within b.defs.now fuel w == 0) (leads_within b.defs.now fuel w)))
known b planned w place fuel them xs x placed low here same is =
    let ds = b.defs.now in
    let at = there ds place placed.below in
    let round = round-at ds 9 b.rounds.now fuel them planned.rounds (omega (arith, low)) here in (
      at.0,
      (
        at.1,
        passing-at ds fuel them place at.0 x round at.1 (is ∙ ap (λ (ys : List Passing). get_or ys place x) same) ∙ by-name ds fuel w at.0 (placed.found ∙ at.1),
      ),
    )

pub build_vertex-returns-then-passing : goal.build_vertex-returns-then-passing
build_vertex-returns-then-passing t c =
    let b = c.args.builder.now in
    let ds = b.defs.now in
    let w = c.args.name.now in
    let seat = c.args.seat in
    let m = c.args.fuel in
    let own = ports_of ds w in
    let x = c.index-as_slice-place.result in
    let k = known b c.requires.planned w c.args.place m c.index-builder-fuel.result c.as_slice.result.now x c.requires.placed
    c.requires.shallow c.index-builder-fuel.is (c.as_slice.ensures ∙ sym c.index-builder-fuel.is) c.index-as_slice-place.is in
    let d = k.0 in
    let def = c.requires.placed.found ∙ k.1.0 in
    let here = c.index-builder-place.is in
    let plan = c.index-builder-place.result in
    let shares = shared_by ds w d plan def (plan_at ds b.plans.now c.args.place d plan c.requires.planned.plans k.1.0 here) in
    let more : m ≡ suc (m - 1) = omega (arith, c.if-fuel-eq0.false) in
    let idle : (count_within ds m w == 0) ≡ true = sym (ap (λ (q : Passed). q.idle) k.1.1) ∙ c.if-passing.true in
    let whole = idle-vertex ds m (m - 1) seat.part w seat.ins seat.sensor seat.actuator d more def c.requires.planned.read c.requires.planned.passed idle in
    follows c.passing_vertex.result _ (λ v. view v ≡ pruned_within ds m seat.part w seat.ins seat.sensor seat.actuator)
    (λ v h. h own.outs (sym (ap (λ (p : Plan). p.outs) here) ∙ shares.outs) (sym (ap (λ (p : Plan). p.names) here) ∙ shares.names) (sym (ap (λ (p : Plan). p.guards) here) ∙ shares.guards)
    ∙ ap₂ (λ (name : Bytes) (outs : List Source). vertex seat.part name seat.ins own.outs (graph outs) [])
    (sym (ap (λ (p : Plan). p.definition) here) ∙ shares.definition) (ap (λ (q : Passed). q.outs) k.1.1)
    ∙ whole)
    c.passing_vertex.ensures

pub build_vertex-returns-else-passing : goal.build_vertex-returns-else-passing
build_vertex-returns-else-passing t c =
    let b = c.args.builder.now in
    let ds = b.defs.now in
    let w = c.args.name.now in
    let seat = c.args.seat in
    let m = c.args.fuel in
    let x = c.index-as_slice-place.result in
    let k = known b c.requires.planned w c.args.place m c.index-builder-fuel.result c.as_slice.result.now x c.requires.placed
    c.requires.shallow c.index-builder-fuel.is (c.as_slice.ensures ∙ sym c.index-builder-fuel.is) c.index-as_slice-place.is in
    let more : m ≡ suc (m - 1) = omega (arith, c.if-fuel-eq0.false) in
    let some : (count_within ds m w == 0) ≡ false = sym (ap (λ (q : Passed). q.idle) k.1.1) ∙ c.if-passing.false in
    retold view c.build_live.result _ (pruned_within ds m seat.part w seat.ins seat.sensor seat.actuator)
    (live-vertex ds m (m - 1) seat.part w seat.ins seat.sensor seat.actuator k.0 more (c.requires.placed.found ∙ k.1.0) c.requires.planned.read c.requires.planned.passed some)
    c.build_live.ensures

pub build_live-build_inner-requires : goal.build_live-build_inner-requires
build_live-build_inner-requires t c =
    let b = c.args.builder.now in
    let ds = b.defs.now in
    let d = get_or ds c.args.place c.index-builder-place.result in
    let at = slice_get-get_or ds c.args.place c.index-builder-place.result c.requires.placed.below in
    let plan = plan_at ds b.plans.now c.args.place d c.index-builder-place-2.result c.requires.planned.plans at c.index-builder-place-2.is in (
      search (rules),
      (
        c.requires.planned,
        (
          c.requires.shallow,
          (
            c.requires.planned.ready.read c.args.place c.index-builder-place.result c.requires.placed.below,
            (
              c.places_of-places.ensures d at,
              c.as_slice-wires.ensures ∙ sym (ap (λ (p : Plan). p.wires) c.index-builder-place-2.is) ∙ ap (λ (q : Planned). q.wires) plan,
            ),
          ),
        ),
      ),
    )

pub build_live-returns : goal.build_live-returns
build_live-returns t c =
    let b = c.args.builder.now in
    let ds = b.defs.now in
    let w = c.args.name.now in
    let d = get_or ds c.args.place c.index-builder-place.result in
    let at = slice_get-get_or ds c.args.place c.index-builder-place.result c.requires.placed.below in
    let own = ports_of ds w in
    let seat = c.args.seat in
    let def = def_at ds b.table.now w c.args.place c.index-builder-place.result c.requires.placed in
    let here = c.index-builder-place-2.is in
    let plan = plan_at ds b.plans.now c.args.place d c.index-builder-place-2.result c.requires.planned.plans at here in
    let shares = shared_by ds w d c.index-builder-place-2.result def plan in
    let kind = planned_kind ds (vertex_within ds c.args.fuel) w d own _ def refl (sym (ap (λ (p : Plan). kind_view p.kind) here) ∙ ap (λ (q : Planned). q.kind) plan) in
    let label = c.in_ok-label.ensures in
    c.vertex.ensures own.outs
    (ap (λ (l : Label). l.outs) label ∙ sym (ap (λ (p : Plan). p.outs) here) ∙ shares.outs)
    (ap (λ (l : Label). l.names) label ∙ sym (ap (λ (p : Plan). p.names) here) ∙ shares.names)
    (ap (λ (l : Label). l.guards) label ∙ sym (ap (λ (p : Plan). p.guards) here) ∙ shares.guards)
    ∙ ap (λ (v : Bytes). vertex seat.part v seat.ins own.outs (kind_view c.in_ok-label.label.kind) (map view c.in_ok-inner.inner.items))
    (ap (λ (l : Label). l.definition) label ∙ sym (ap (λ (p : Plan). p.definition) here) ∙ shares.definition)
    ∙ live-step ds c.args.fuel seat.part w seat.ins seat.sensor seat.actuator d def c.in_ok-label.label.kind c.in_ok-inner.inner.items
    (ap (λ (l : Label). kind_view l.kind) label ∙ c.in_ok-kind.ensures ds (vertex_within ds c.args.fuel) own kind) c.in_ok-inner.ensures

-- the one list of sources of a switch: its own inputs after the conditioning one
switch_wire : (ds : List Def) (body : Body) (on : Bytes) (ins outs : List Port) (cases : List Case) (otherwise : Bytes) (last : ℕ) (wires : List (List Source)) (wire : List Source)
    → body ≡ Switch on ins outs cases otherwise last → wires ≡ wires_by ds body → wire ≡ get_or wires 0 wire → wire ≡ owns 1 (length ins)
switch_wire ds body on ins outs cases otherwise last wires wire is planned here =
    only_wire wires wire (owns 1 (length ins)) (planned ∙ ap (wires_by ds) is) here

pub build_inner-build_cases-requires : goal.build_inner-build_cases-requires
build_inner-build_cases-requires t c =
    let b = c.args.builder.now in
    let ps = c.args.places.now in
    let otherwise = c.in-Switch.otherwise in
    let wire = switch_wire b.defs.now c.args.body.now _ _ _ _ _ _ c.args.wires.now c.index-wires-0.result c.in-Switch.is c.requires.wires c.index-wires-0.is in
    let placed =
    subst (λ (cs : List Case). ArePlaced b.defs.now b.table.now (map (λ x. x.def) cs ++ otherwise ∷ []) ps) (sym c.as_slice-in-Switch.ensures)
    (subst (λ (x : Body). ArePlaced b.defs.now b.table.now (named x) ps) c.in-Switch.is c.requires.placed) in
    (search (rules), (c.requires.planned, (c.requires.shallow, (placed, owns_itself 1 (length c.in-Switch.ins) c.index-wires-0.result wire))))

pub build_inner-returns-in-Switch : goal.build_inner-returns-in-Switch
build_inner-returns-in-Switch t c =
    let ds = c.args.builder.now.defs.now in
    let make = pruned_within ds c.args.fuel in
    let ins = c.in-Switch.ins in
    let otherwise = c.in-Switch.otherwise in
    let wire = switch_wire ds c.args.body.now _ _ _ _ _ _ c.args.wires.now c.index-wires-0.result c.in-Switch.is c.requires.wires c.index-wires-0.is in
    let same =
    ap (λ (k : ℕ). cases_from ds make k 0 (map (λ x. x.def) c.as_slice-in-Switch.result.now ++ otherwise ∷ [])) (owns_long 1 (length ins) c.index-wires-0.result wire)
    ∙ ap (λ (cs : List Case). cases_from ds make (length ins) 0 (map (λ x. x.def) cs ++ otherwise ∷ [])) c.as_slice-in-Switch.ensures
    ∙ sym (ap (inner_by ds make) c.in-Switch.is) in
    retold (λ (us : Vec Vertex). map view us.items) c.build_cases.result _ (inner_by ds make c.args.body.now) same c.build_cases.ensures

pub build_copy-returns : goal.build_copy-returns
build_copy-returns t c =
    one_copy c.args.builder.now.defs.now
    (pruned_within c.args.builder.now.defs.now c.args.fuel) c.args.name.now c.args.wires.now c.index-wires-0.result c.in_ok-ins.ins
    c.inner_seat-seat.result c.in_ok-build_vertex.field-0 _
    c.requires.wires c.index-wires-0.is c.in_ok-ins.ensures c.inner_seat-seat.ensures c.in_ok-build_vertex.ensures
    (c.in_ok-push.ensures.items ∙ ap (λ (us : List Vertex). us ++ c.in_ok-build_vertex.field-0 ∷ []) c.new-inner.ensures.items)

pub build_cases-loop-number-preserved : goal.build_cases-loop-number-preserved
build_cases-loop-number-preserved t c =
    rw c.in_ok-push.ensures.items
    (one_case c.args.builder.now.defs.now (pruned_within c.args.builder.now.defs.now c.args.fuel) (length c.args.names.now.ins.now) _ c.loop-number.number _ c.in_ok-seat.seat c.loop-number.inner.items
    c.in_ok-build_vertex.field-0 _ c.name-name.ensures (c.in_ok-seat.ensures ∙ ap (inner_at c.loop-number.number) c.requires.ins) c.in_ok-build_vertex.ensures c.loop-number.invariant)

pub build_cases-returns : goal.build_cases-returns
build_cases-returns t c =
    let b = c.args.builder.now in
    let names = c.args.names.now in
    let all = map (λ (x : Case). x.def) names.cases.now ++ names.otherwise.now ∷ [] in
    let past : length all ≤ c.loop-number.number =
    omega (
      arith,
      one_more b.defs.now b.table.now names.otherwise.now names.cases.now c.args.places.now c.requires.placed,
      length-append (map (λ (x : Case). x.def) names.cases.now) (names.otherwise.now ∷ []),
      length-map names.cases.now (λ (x : Case). x.def),
    ) in
    all_cases b.defs.now (pruned_within b.defs.now c.args.fuel) (length names.ins.now) all c.loop-number.number c.loop-number.inner.items _ past c.loop-number.invariant
