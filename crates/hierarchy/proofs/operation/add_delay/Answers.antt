use Rattle.std.proofs.Common.{◌≡◌, ℕ, suc, ◌+◌, ◌<◌, ◌==◌, List, [], ◌∷◌, drop, cond, length, map, get_or, sym, ap, ap₂, ◌∙◌, subst, arith}
use Rattle.std.proofs.lemmas.List.{drop_all, get_or_default}
use Rattle.algo_tree.specs.declared.Source.{Source}
use Rattle.algo_tree.specs.declared.Source.TheVariants.{Of}
use Rattle.algo_tree.specs.Tree.{Label}
use Rattle.algo_tree.specs.View.{label_view}
use Rattle.algo_tree.specs.declared.vertex.Vertex.{out-Vertex}
use Rattle.flat_graph.specs.Meaning.{level_source}
use Rattle.flat_laws.specs.Inlined.{stage_input, stages}
use Rattle.hierarchy.specs.Built.{Adds, graph_of, stage_pair}
use Rattle.flat_laws.specs.Linked.{AreFound, AllLinked}
use Rattle.hierarchy.specs.Wires.{led}
use Rattle.hierarchy.proofs.Building.{input_is, stages_from, stage_added, stages_begin, stages_end}
use Rattle.hierarchy.proofs.operation.add_delay.Goals as goal
use Rattle.syn_base.specs.Vectors.{Vector}

pub loop-at-init : goal.loop-at-init
loop-at-init c = record {
  count = omega arith;
  linked = c.requires.linked;
  added = λ at named. stages_begin (graph_of c.args.all.now) (led c.args.level.now.leds.now c.args.level.now.own.now) at (label_view (out-Vertex c.args.vertex.now)) c.args.groups.now;
}

-- the stage whose turn it is
turn : (w : Source → Source) (n i : ℕ) (l : Label) (vs : List Vector) → i < length vs → AllLinked (stages w n [] l i (drop i vs)) → AllLinked (stages w n [] l i (get_or vs i [] ∷ drop (i + 1) vs))
turn w n i l vs lt linked = subst (λ us. AllLinked (stages w n [] l i us)) (stages_from i vs lt) linked

pub stage_ins-requires : goal.stage_ins-requires
stage_ins-requires c =
    let w = led c.args.level.now.leds.now c.args.level.now.own.now in
    let l = label_view (out-Vertex c.args.vertex.now) in
    let i = c.loop-at.at in
    let n = length c.loop-at.all.vertices.items in
    let vs = c.args.groups.now in
    let here = turn w n i l vs c.loop-at-test.true c.loop-at.invariant.linked in
    λ last.
    rw c.as_slice.ensures (subst AreFound (input_is n i (map w l.ins) vs c.loop-at-test.true ∙ ap (λ t. cond t (map w l.ins) (Of (n + 2) 0 ∷ [])) last) here.1.0.0)

pub add_stage-requires-clause-guards : goal.add_stage-requires-clause-guards
add_stage-requires-clause-guards c =
    let w = led c.args.level.now.leds.now c.args.level.now.own.now in
    let l = label_view (out-Vertex c.args.vertex.now) in
    (turn w (length c.loop-at.all.vertices.items) c.loop-at.at l c.args.groups.now c.loop-at-test.true c.loop-at.invariant.linked).0.1

pub loop-at-preserved : goal.loop-at-preserved
loop-at-preserved c =
    let w = led c.args.level.now.leds.now c.args.level.now.own.now in
    let l = label_view (out-Vertex c.args.vertex.now) in
    let i = c.loop-at.at in
    let old = c.args.all.now in
    let now = c.loop-at.all in
    let next = c.add_stage.new.all in
    let n = length now.vertices.items in
    let vs = c.args.groups.now in
    let z = get_or vs i [] in
    let here = turn w n i l vs c.loop-at-test.true c.loop-at.invariant.linked in
    let more : length next.vertices.items ≡ n + 2 = c.in_ok-add_stage.ensures.count in
    let get : c.in_ok-get.get ≡ n = c.in_ok-get.ensures.same ∙ c.len.ensures ∙ now.vertices.ok.0 in
    let value : c.as_slice-in-loop-at.result.now ≡ z = c.as_slice-in-loop-at.ensures ∙ c.index-groups-at.is ∙ get_or_default vs i c.index-groups-at.result [] c.loop-at-test.true in
    let taken : map level_source c.in_ok-ins.ins.items ≡ stage_input n (map w l.ins) (drop (i + 1) vs) =
    c.in_ok-ins.ensures
    ∙ ap₂ (λ ss g. cond (i + 1 == length vs) (map w ss) (Of (g + 2) 0 ∷ [])) c.as_slice.ensures get ∙ sym (input_is n i (map w l.ins) vs c.loop-at-test.true) in
    let number : c.in_ok-to_u32.field-0 ≡ i = c.in_ok-to_u32.ensures.same in
    record {
      count = omega (arith, more, c.loop-at.invariant.count);
      linked =
          let one : suc i ≡ i + 1 = omega arith in
          subst (λ j. AllLinked (stages w (length next.vertices.items) [] l j (drop (i + 1) vs))) one (subst (λ m. AllLinked (stages w m [] l (suc i) (drop (i + 1) vs))) (sym more) here.1.1);
      added = λ at named.
          let pair : Adds (graph_of now) (graph_of next) (λ b. stage_pair w at i l z (map level_source c.in_ok-ins.ins.items)) =
          subst (λ j. Adds (graph_of now) (graph_of next) (λ b. stage_pair w at j l z (map level_source c.in_ok-ins.ins.items))) number
          (subst (λ v. Adds (graph_of now) (graph_of next)
          (λ b. stage_pair w at c.in_ok-to_u32.field-0 l v (map level_source c.in_ok-ins.ins.items))) value (c.in_ok-add_stage.ensures.added at named)) in
          stage_added (graph_of old) (graph_of now) (graph_of next) w at l i z (map level_source c.in_ok-ins.ins.items) vs
          (stages_from i vs c.loop-at-test.true) taken pair (c.loop-at.invariant.added at named);
    }

pub returns-clause-added : goal.returns-clause-added
returns-clause-added c =
    let w = led c.args.level.now.leds.now c.args.level.now.own.now in
    let l = label_view (out-Vertex c.args.vertex.now) in
    λ at named.
    stages_end (graph_of c.args.all.now) (graph_of c.loop-at.all) w at l c.loop-at.at c.args.groups.now
    (drop_all c.loop-at.at c.args.groups.now (omega (arith, c.loop-at-test.false))) (c.loop-at.invariant.added at named)

pub returns-clause-count : goal.returns-clause-count
returns-clause-count c = omega (arith, c.loop-at.invariant.count, c.loop-at-test.false, c.loop-at.auto.at-end)
