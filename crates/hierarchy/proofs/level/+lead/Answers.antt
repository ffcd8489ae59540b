use Rattle.std.proofs.Common.{◌≡◌, ◌<◌, length, get_or, map, set, take, sym, ap, ap₂, ◌∙◌, subst, rules, arith, length-set}
use Rattle.std.proofs.lemmas.List.{take_all}
use Rattle.algo_tree.specs.View.{view, vertices_view}
use Rattle.algo_tree.specs.Well.{IsWell}
use Rattle.algo_tree.specs.declared.vertex.Vertex.{the_lemmas}
use Rattle.hierarchy.specs.Order.{IsOrder, nodes_of}
use Rattle.hierarchy.proofs.Nodes.{length-nodes_of}
use Rattle.hierarchy.specs.Numbers.{first_numbers}
use Rattle.hierarchy.specs.Wires.{led, Leads}
use Rattle.hierarchy.proofs.Leading.{AreLed, length-first_numbers, take_next, get_or_any, turn_there, one_led, all_led, none_led, graph_led, graph_well, well_at}
use Rattle.hierarchy.proofs.level.+lead.Goals as goal

pub lead_graph-lead_level-requires : goal.lead_graph-lead_level-requires
lead_graph-lead_level-requires t c =
    let inside = graph_well c.args.vertex.now c.args.outputs.now c.requires.kind c.requires.well in
    (search (rules, the_lemmas), inside)

pub lead_graph-returns : goal.lead_graph-returns
lead_graph-returns t c =
    let w = led c.args.level.now.leds.now c.args.level.now.own.now in
    let from = c.deref.ensures.value ∙ c.in_ok-own.ensures ∙ ap (λ ss. map w ss) c.as_slice.ensures in
    let leads = ap₂ led c.deref-3.ensures.value (c.deref-2.ensures.value ∙ sym c.deref.ensures.value) ∙ c.in_ok-leds.ensures in
    graph_led c.args.vertex.now c.args.outputs.now c.requires.kind c.args.first w c.deref.result.now c.new.result
    (led c.deref-3.result.now c.deref-2.result.now) from leads (c.new.ensures ∙ c.in_ok-sources.ensures)

pub lead_level-loop-r-init : goal.lead_level-loop-r-init
lead_level-loop-r-init t c =
    let us = c.args.vertices.now.items in
    record {
      count = c.in_ok-leds.ensures ∙ ap length
          (c.deref-2.ensures.value ∙ c.in_ok-numbers.ensures
          ∙ ap (λ vs. first_numbers c.args.first (vertices_view vs)) c.deref.ensures.value) ∙ length-first_numbers c.args.first us;
      done = none_led c.args.first c.args.own.now us c.in_ok-leds.leds.items;
    }

pub lead_level-index-requires : goal.lead_level-index-requires
lead_level-index-requires t c =
    let us = c.args.vertices.now.items in
    let xs = c.deref-r-items.result.now in
    let ordered : IsOrder (nodes_of us) xs = subst (IsOrder (nodes_of us)) (sym c.deref-r-items.ensures.value) c.in_ok-order.ensures in
    let there = turn_there (nodes_of us) (take c.loop-r.r-index xs) (get_or xs c.loop-r.r-index 0) (ordered.each c.loop-r.r-index c.loop-r-test.true) in
    let long = length-nodes_of us in
    let count : length c.in_ok-numbers.numbers.items
    ≡ length us = ap length (c.in_ok-numbers.ensures ∙ ap (λ vs. first_numbers c.args.first (vertices_view vs)) c.deref.ensures.value)
    ∙ length-first_numbers c.args.first us in
    omega (arith, there, long, count)

pub lead_level-index-requires-in-loop-r : goal.lead_level-index-requires-in-loop-r
lead_level-index-requires-in-loop-r t c =
    let us = c.args.vertices.now.items in
    let xs = c.deref-r-items.result.now in
    let ordered : IsOrder (nodes_of us) xs = subst (IsOrder (nodes_of us)) (sym c.deref-r-items.ensures.value) c.in_ok-order.ensures in
    let there = turn_there (nodes_of us) (take c.loop-r.r-index xs) (get_or xs c.loop-r.r-index 0) (ordered.each c.loop-r.r-index c.loop-r-test.true) in
    let long = length-nodes_of us in
    omega (arith, there, long)

pub lead_level-lead_vertex-requires : goal.lead_level-lead_vertex-requires
lead_level-lead_vertex-requires t c =
    let us = c.args.vertices.now.items in
    let xs = c.deref-r-items.result.now in
    let ordered : IsOrder (nodes_of us) xs = subst (IsOrder (nodes_of us)) (sym c.deref-r-items.ensures.value) c.in_ok-order.ensures in
    let r = get_or xs c.loop-r.r-index 0 in
    let there = turn_there (nodes_of us) (take c.loop-r.r-index xs) r (ordered.each c.loop-r.r-index c.loop-r-test.true) in
    let long = length-nodes_of us in
    let lt : r < length us = omega (arith, there, long) in
    let u = c.index-in-loop-r.result.now in
    let at : u ≡ get_or us r u = c.index-in-loop-r.ensures in
    let well : IsWell (view u) = rw at (well_at us r u c.requires.well lt) in
    (search (rules, the_lemmas), well)

pub lead_level-index_mut-requires : goal.lead_level-index_mut-requires
lead_level-index_mut-requires t c =
    let us = c.args.vertices.now.items in
    let xs = c.deref-r-items.result.now in
    let ordered : IsOrder (nodes_of us) xs = subst (IsOrder (nodes_of us)) (sym c.deref-r-items.ensures.value) c.in_ok-order.ensures in
    let there = turn_there (nodes_of us) (take c.loop-r.r-index xs) (get_or xs c.loop-r.r-index 0) (ordered.each c.loop-r.r-index c.loop-r-test.true) in
    let long = length-nodes_of us in
    omega (arith, there, long, c.loop-r.invariant.count)

pub lead_level-loop-r-preserved : goal.lead_level-loop-r-preserved
lead_level-loop-r-preserved t c =
    let us = c.args.vertices.now.items in
    let first = c.args.first in
    let own = c.args.own.now in
    let xs = c.deref-r-items.result.now in
    let i = c.loop-r.r-index in
    let leds = c.loop-r.leds.items in
    let ordered : IsOrder (nodes_of us) xs = subst (IsOrder (nodes_of us)) (sym c.deref-r-items.ensures.value) c.in_ok-order.ensures in
    let r = get_or xs i 0 in
    let may = ordered.each i c.loop-r-test.true in
    let there = turn_there (nodes_of us) (take i xs) r may in
    let long = length-nodes_of us in
    let lt : r < length us = omega (arith, there, long) in
    let u = c.index-in-loop-r.result.now in
    let at : u ≡ get_or us r u = c.index-in-loop-r.ensures in
    let numbers : c.in_ok-numbers.numbers.items ≡ first_numbers first (vertices_view us) = c.in_ok-numbers.ensures ∙ ap (λ vs. first_numbers first (vertices_view vs)) c.deref.ensures.value in
    let count = length-first_numbers first us in
    let number : c.index.result.now ≡ get_or (first_numbers first (vertices_view us)) r 0 = c.index.ensures
    ∙ ap (λ ns. get_or ns r c.index.result.now) numbers
    ∙ get_or_any (first_numbers first (vertices_view us)) r c.index.result.now 0 (omega (arith, lt, count)) in
    let told : Leads c.index.result.now (led leds own) (view u) c.in_ok-led.led = rw (← c.deref-in-loop-r.ensures.value) c.in_ok-led.ensures in
    let here : Leads (get_or (first_numbers first (vertices_view us)) r 0) (led leds own) (view (get_or us r u)) c.in_ok-led.led =
    subst (λ v. Leads (get_or (first_numbers first (vertices_view us)) r 0) (led leds own) (view v) c.in_ok-led.led) at (subst (λ n. Leads n (led leds own) (view u) c.in_ok-led.led) number told) in
    record {
      count = length-set leds r c.in_ok-led.led ∙ c.loop-r.invariant.count;
      done = subst (λ before. AreLed first own us before (set leds r c.in_ok-led.led)) (sym (take_next xs i c.loop-r-test.true))
          (one_led first own us (take i xs) leds r u c.in_ok-led.led c.requires.acyclic lt c.loop-r.invariant.count may c.loop-r.invariant.done here);
    }

pub lead_level-returns : goal.lead_level-returns
lead_level-returns t c =
    let us = c.args.vertices.now.items in
    let xs = c.deref-r-items.result.now in
    let i = c.loop-r.r-index in
    let ordered : IsOrder (nodes_of us) xs = subst (IsOrder (nodes_of us)) (sym c.deref-r-items.ensures.value) c.in_ok-order.ensures in
    let past = c.loop-r-test.false in
    all_led c.args.first c.args.own.now us xs c.loop-r.leds.items c.requires.acyclic c.loop-r.invariant.count ordered
    (subst (λ before. AreLed c.args.first c.args.own.now us before c.loop-r.leds.items) (take_all i xs (omega (arith, past))) c.loop-r.invariant.done)
