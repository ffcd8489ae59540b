use Rattle.std.proofs.Common.{◌≡◌, ◌+◌, ◌*◌, ◌<◌, List, [], ◌∷◌, map, drop, length, get_or, refl, sym, ap, ◌∙◌, subst, rules, arith}
use Rattle.std.proofs.lemmas.List.{drop_all}
use Rattle.std.proofs.lemmas.Bool.{eqb-true}
use Rattle.std.proofs.lemmas.Result.{on_ok_weaker}
use Rattle.algo_tree.specs.Level.{Path}
use Rattle.algo_tree.specs.Counted.{operations as count, operations_in as count_all}
use Rattle.algo_tree.specs.View.{view, vertices_view}
use Rattle.algo_tree.specs.Well.{IsWell}
use Rattle.algo_tree.specs.declared.vertex.Vertex.{the_lemmas, out-Vertex}
use Rattle.algo_tree.specs.declared.vertex.Kind.TheVariants.{Delay}
use Rattle.flat_laws.specs.Inlined.{inlined, inlined_all}
use Rattle.flat_laws.specs.Plain.{IsPlain}
use Rattle.algo_tree.specs.Named.{IsNamed}
use Rattle.hierarchy.specs.Built.{graph_of}
use Rattle.flat_laws.specs.Linked.{AllLinked}
use Rattle.hierarchy.specs.Texts.{Prefixes}
use Rattle.hierarchy.specs.Wires.{led}
use Rattle.hierarchy.proofs.Leading.{graph_well, well_at}
use Rattle.hierarchy.proofs.Building.{AddsRest, vertex_added, all_added, level_added}
use Rattle.hierarchy.proofs.Linking.{linked_left, linked_right}
use Rattle.hierarchy.proofs.Texting.{prefixes_inside, prefixes_here}
use Rattle.hierarchy.proofs.Adding.{
  rest_from,
  plain_at,
  named_at,
  label_named,
  inside_named,
  inside_plain,
  is_run,
  graph_adds,
  delay_adds,
  run_adds,
  graph_linked,
  delay_linked,
  run_linked,
  level_linked,
  graph_counted,
  delay_counted,
  run_counted,
  nothing_added,
}
use Rattle.hierarchy.proofs.inlining.+add.Goals as goal
use Rattle.syn_base.specs.Vectors.{Vector}

pub add_vertices-loop-vertex-init : goal.add_vertices-loop-vertex-init
add_vertices-loop-vertex-init t c =
    let items = c.deref-vertex-items.ensures.value in
    record {
      count = refl;
      linked = λ below. rw items (c.requires.linked below);
      added = λ below prefix last adds. adds;
    }

pub add_vertices-add_vertex-requires : goal.add_vertices-add_vertex-requires
add_vertices-add_vertex-requires t c =
    let us = c.args.vertices.now.items in
    let i = c.loop-vertex.vertex-index in
    let u = c.vertex-item.result in
    let items = c.deref-vertex-items.ensures.value in
    let at : u ≡ get_or us i u = rw items at c.vertex-item.is in
    let lt : i < length us = rw items at c.loop-vertex-test.true in
    let well : IsWell (view u) = rw at (well_at us i u c.requires.well lt) in
    let plain : IsPlain (view u) = rw at (plain_at us i u c.requires.plain lt) in
    let named : IsNamed (view u) = rw at (named_at us i u c.requires.names lt) in
    let w = led c.args.level.now.leds.now c.args.level.now.own.now in
    let n = length c.loop-vertex.all.vertices.items in
    let linked : (below : Path → Path) → AllLinked (inlined w n below (view u)) =
    λ below.
    let all : AllLinked (inlined_all w n below (vertices_view (drop i us))) = rw items at (c.loop-vertex.invariant.linked below) in
    linked_left (inlined w n below (view u)) (inlined_all w (n + count (view u)) below (vertices_view (drop (i + 1) us)))
    (subst (λ vs. AllLinked (inlined_all w n below (vertices_view vs))) (rest_from us i u lt at) all) in
    (search (rules, the_lemmas), (well, (plain, (named, linked))))

pub add_vertices-loop-vertex-preserved : goal.add_vertices-loop-vertex-preserved
add_vertices-loop-vertex-preserved t c =
    let us = c.args.vertices.now.items in
    let i = c.loop-vertex.vertex-index in
    let u = c.vertex-item.result in
    let items = c.deref-vertex-items.ensures.value in
    let at : u ≡ get_or us i u = rw items at c.vertex-item.is in
    let lt : i < length us = rw items at c.loop-vertex-test.true in
    let well : IsWell (view u) = rw at (well_at us i u c.requires.well lt) in
    let plain : IsPlain (view u) = rw at (plain_at us i u c.requires.plain lt) in
    let w = led c.args.level.now.leds.now c.args.level.now.own.now in
    let old = c.args.all.now in
    let now = c.loop-vertex.all in
    let next = c.add_vertex.new.all in
    let n = length now.vertices.items in
    let rest = vertices_view (drop (i + 1) us) in
    let from = rest_from us i u lt at in
    let more : length next.vertices.items ≡ n + count (view u) = c.in_ok-add_vertex.ensures.count in
    let so_far : n + count_all (vertices_view (drop i us)) ≡ length old.vertices.items + count_all (vertices_view us) = rw items at c.loop-vertex.invariant.count in
    let counted : n + (count (view u) + count_all rest) ≡ length old.vertices.items + count_all (vertices_view us) =
    subst (λ vs. n + count_all (vertices_view vs) ≡ length old.vertices.items + count_all (vertices_view us)) from so_far in
    let whole : length next.vertices.items + count_all rest ≡ length old.vertices.items + count_all (vertices_view us) = omega (arith, more, counted) in
    record {
      count = rw items whole;
      linked = λ below.
          let all : AllLinked (inlined_all w n below (vertices_view (drop i us))) = rw items at (c.loop-vertex.invariant.linked below) in
          let behind : AllLinked (inlined_all w (n + count (view u)) below rest) =
          linked_right (inlined w n below (view u)) (inlined_all w (n + count (view u)) below rest) (subst (λ vs. AllLinked (inlined_all w n below (vertices_view vs))) from all) in
          let there : AllLinked (inlined_all w (length next.vertices.items) below rest) = subst (λ b. AllLinked (inlined_all w b below rest)) (sym more) behind in
          rw items there;
      added = λ below prefix.
          let before : AddsRest (graph_of old) (graph_of now) w below (vertices_view (drop i us)) (vertices_view us) = rw items at (c.loop-vertex.invariant.added below prefix) in
          let one : AddsRest (graph_of old) (graph_of now) w below (vertices_view (u ∷ drop (i + 1) us)) (vertices_view us) =
          subst (λ vs. AddsRest (graph_of old) (graph_of now) w below (vertices_view vs) (vertices_view us)) from before in
          rw items (vertex_added (graph_of old) (graph_of now) (graph_of next) w below (view u) rest (vertices_view us) plain (c.in_ok-add_vertex.ensures.added below prefix) one);
    }

pub add_vertices-returns-clause-added : goal.add_vertices-returns-clause-added
add_vertices-returns-clause-added t c =
    let us = c.args.vertices.now.items in
    let i = c.loop-vertex.vertex-index in
    let items = c.deref-vertex-items.ensures.value in
    let w = led c.args.level.now.leds.now c.args.level.now.own.now in
    let done = rw items at c.loop-vertex-test.false in
    λ below prefix.
    let so_far : AddsRest (graph_of c.args.all.now) (graph_of c.loop-vertex.all) w below (vertices_view (drop i us)) (vertices_view us) = rw items at (c.loop-vertex.invariant.added below prefix) in
    let last : AddsRest (graph_of c.args.all.now) (graph_of c.loop-vertex.all) w below (vertices_view []) (vertices_view us) =
    subst (λ vs. AddsRest (graph_of c.args.all.now) (graph_of c.loop-vertex.all) w below (vertices_view vs) (vertices_view us)) (drop_all i us (omega (arith, done))) so_far in
    all_added (graph_of c.args.all.now) (graph_of c.loop-vertex.all) w below (vertices_view us) last

pub add_vertices-returns-clause-count : goal.add_vertices-returns-clause-count
add_vertices-returns-clause-count t c =
    let us = c.args.vertices.now.items in
    let i = c.loop-vertex.vertex-index in
    let items = c.deref-vertex-items.ensures.value in
    let done = rw items at c.loop-vertex-test.false in
    let n = length c.loop-vertex.all.vertices.items in
    let so_far : n + count_all (vertices_view (drop i us)) ≡ length c.args.all.now.vertices.items + count_all (vertices_view us) = rw items at c.loop-vertex.invariant.count in
    let whole : n + 0 ≡ length c.args.all.now.vertices.items + count_all (vertices_view us) =
    subst (λ vs. n + count_all (vertices_view vs) ≡ length c.args.all.now.vertices.items + count_all (vertices_view us)) (drop_all i us (omega (arith, done))) so_far in
    omega (arith, whole)

pub add_level-add_vertices-requires : goal.add_level-add_vertices-requires
add_level-add_vertices-requires t c =
    let us = vertices_view c.args.vertices.now.items in
    let number = c.in_ok-first.ensures.same ∙ c.len.ensures ∙ c.args.all.now.vertices.ok.0 in
    let leads = ap (λ xs. led xs c.args.own.now) c.deref.ensures.value ∙ c.in_ok-leds.ensures in
    let linked = level_linked (led c.deref.result.now c.args.own.now) c.args.own.now c.in_ok-first.first (length c.args.all.now.vertices.items) us number leads c.requires.linked in
    (search (rules, the_lemmas), (c.requires.well, (c.requires.plain, (c.requires.names, linked))))

pub add_level-returns-clause-added : goal.add_level-returns-clause-added
add_level-returns-clause-added t c =
    let us = vertices_view c.args.vertices.now.items in
    let number = c.in_ok-first.ensures.same ∙ c.len.ensures ∙ c.args.all.now.vertices.ok.0 in
    let leads = ap (λ xs. led xs c.args.own.now) c.deref.ensures.value ∙ c.in_ok-leds.ensures in
    on_ok_weaker c.add_vertices.result
    (λ adds below prefix.
    level_added (graph_of c.args.all.now) (graph_of c.add_vertices.new.all) (led c.deref.result.now c.args.own.now) c.args.own.now c.in_ok-first.first below us number leads (adds below prefix))
    c.add_vertices.ensures.added

pub add_vertex-add_delay-requires-clause-linked : goal.add_vertex-add_delay-requires-clause-linked
add_vertex-add_delay-requires-clause-linked t c =
    let w = led c.args.level.now.leds.now c.args.level.now.own.now in
    rw c.as_slice-in-Delay.ensures (delay_linked w c.args.vertex.now c.in-Delay.groups c.in-Delay.is (length c.args.all.now.vertices.items) c.requires.linked)

pub add_vertex-add_operation-requires-clause-ins : goal.add_vertex-add_operation-requires-clause-ins
add_vertex-add_operation-requires-clause-ins t c =
    let w = led c.args.level.now.leds.now c.args.level.now.own.now in
    let run = is_run c.args.vertex.now c.requires.plain c.in_default.not-Delay c.in_default.not-Graph in
    (run_linked w c.args.vertex.now run (length c.args.all.now.vertices.items) (c.requires.linked (λ q. q))).0

pub add_vertex-add_operation-requires-clause-guards : goal.add_vertex-add_operation-requires-clause-guards
add_vertex-add_operation-requires-clause-guards t c =
    let w = led c.args.level.now.leds.now c.args.level.now.own.now in
    let run = is_run c.args.vertex.now c.requires.plain c.in_default.not-Delay c.in_default.not-Graph in
    (run_linked w c.args.vertex.now run (length c.args.all.now.vertices.items) (c.requires.linked (λ q. q))).1

pub add_vertex-returns-in-Graph-clause-added : goal.add_vertex-returns-in-Graph-clause-added
add_vertex-returns-in-Graph-clause-added t c =
    let u = c.args.vertex.now in
    let p = (out-Vertex u).part in
    let text = c.deref.ensures.value ∙ c.in_ok-text.ensures in
    on_ok_weaker c.add_graph.result
    (λ adds below prefix.
    adds below (subst (λ x. Prefixes x (λ q. below (p ∷ q))) (sym text) (prefixes_inside c.args.path.now below p (label_named u c.requires.names).part prefix)))
    c.add_graph.ensures.added

pub add_vertex-returns-in-Delay-clause-added : goal.add_vertex-returns-in-Delay-clause-added
add_vertex-returns-in-Delay-clause-added t c =
    let u = c.args.vertex.now in
    let p = (out-Vertex u).part in
    let w = led c.args.level.now.leds.now c.args.level.now.own.now in
    let text = c.deref-in-Delay.ensures.value ∙ c.in_ok-text.ensures in
    on_ok_weaker c.add_delay.result
    (λ adds below prefix.
    delay_adds w u c.as_slice-in-Delay.result.now (c.in-Delay.is ∙ ap Delay (sym c.as_slice-in-Delay.ensures)) (graph_of c.args.all.now) (graph_of c.add_delay.new.all) below
    (adds (below (p ∷ [])) (prefixes_here c.args.path.now below p prefix ∙ sym text)))
    c.add_delay.ensures.added

pub add_vertex-returns-in-Delay-clause-count : goal.add_vertex-returns-in-Delay-clause-count
add_vertex-returns-in-Delay-clause-count t c =
    let two = delay_counted c.args.vertex.now c.in-Delay.groups c.in-Delay.is ∙ ap (λ (vs : List Vector). 2 * length vs) (sym c.as_slice-in-Delay.ensures) in
    on_ok_weaker c.add_delay.result (λ more. more ∙ ap (λ n. length c.args.all.now.vertices.items + n) (sym two)) c.add_delay.ensures.count

pub add_vertex-returns-in_default-clause-added : goal.add_vertex-returns-in_default-clause-added
add_vertex-returns-in_default-clause-added t c =
    let u = c.args.vertex.now in
    let p = (out-Vertex u).part in
    let w = led c.args.level.now.leds.now c.args.level.now.own.now in
    let run = is_run u c.requires.plain c.in_default.not-Delay c.in_default.not-Graph in
    on_ok_weaker c.add_operation.result
    (λ adds below prefix.
    run_adds w u run (graph_of c.args.all.now) (graph_of c.add_operation.new.all) below
    (adds (below (p ∷ [])) (prefixes_here c.args.path.now below p prefix ∙ sym c.in_ok-text.ensures)))
    c.add_operation.ensures.added

pub add_vertex-returns-in_default-clause-count : goal.add_vertex-returns-in_default-clause-count
add_vertex-returns-in_default-clause-count t c =
    let one = run_counted c.args.vertex.now (is_run c.args.vertex.now c.requires.plain c.in_default.not-Delay c.in_default.not-Graph) in
    on_ok_weaker c.add_operation.result (λ more. more ∙ ap (λ n. length c.args.all.now.vertices.items + n) (sym one)) c.add_operation.ensures.count

pub add_graph-add_level-requires : goal.add_graph-add_level-requires
add_graph-add_level-requires t c =
    let u = c.args.vertex.now in
    let w = led c.args.level.now.leds.now c.args.level.now.own.now in
    let inside = graph_well u c.args.outputs.now c.requires.kind c.requires.well in
    let own = c.deref.ensures.value ∙ c.in_ok-own.ensures ∙ ap (λ ss. map w ss) c.as_slice.ensures in
    let linked = graph_linked w u c.args.outputs.now c.deref.result.now c.requires.kind own (length c.args.all.now.vertices.items) c.requires.linked in
    (search (rules, the_lemmas), (inside.0, (inside_plain u c.requires.plain, (inside_named u c.requires.names, (inside.1, linked)))))

pub add_graph-returns-then-is_idle-clause-added : goal.add_graph-returns-then-is_idle-clause-added
add_graph-returns-then-is_idle-clause-added t c =
    let u = c.args.vertex.now in
    let none : count (view u) ≡ 0 = eqb-true (count (view u)) 0 (sym c.if-is_idle.ensures) in
    λ below prefix. nothing_added (led c.args.level.now.leds.now c.args.level.now.own.now) u c.requires.plain none (graph_of c.args.all.now) below

pub add_graph-returns-then-is_idle-clause-count : goal.add_graph-returns-then-is_idle-clause-count
add_graph-returns-then-is_idle-clause-count t c =
    let u = c.args.vertex.now in
    let none : count (view u) ≡ 0 = eqb-true (count (view u)) 0 (sym c.if-is_idle.ensures) in
    omega (arith, none)

pub add_graph-returns-clause-added : goal.add_graph-returns-clause-added
add_graph-returns-clause-added t c =
    let u = c.args.vertex.now in
    let p = (out-Vertex u).part in
    let w = led c.args.level.now.leds.now c.args.level.now.own.now in
    let own = c.deref.ensures.value ∙ c.in_ok-own.ensures ∙ ap (λ ss. map w ss) c.as_slice.ensures in
    on_ok_weaker c.add_level.result
    (λ adds below prefix. graph_adds w u c.args.outputs.now c.deref.result.now c.requires.kind own (graph_of c.args.all.now) (graph_of c.add_level.new.all) below (adds (λ q. below (p ∷ q)) prefix))
    c.add_level.ensures.added

pub add_graph-returns-clause-count : goal.add_graph-returns-clause-count
add_graph-returns-clause-count t c =
    let inside = graph_counted c.args.vertex.now c.args.outputs.now c.requires.kind in
    on_ok_weaker c.add_level.result (λ more. more ∙ ap (λ n. length c.args.all.now.vertices.items + n) (sym inside)) c.add_level.ensures.count
