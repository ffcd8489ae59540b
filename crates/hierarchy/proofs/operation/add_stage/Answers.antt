use Rattle.std.proofs.Common.{◌≡◌, suc, ◌++◌, ◌∷◌, [], length, map, refl, ap, ◌∙◌, arith}
use Rattle.flat_graph.specs.Meaning.{level_source}
use Rattle.algo_tree.specs.View.{label_view}
use Rattle.algo_tree.specs.declared.vertex.Vertex.{out-Vertex}
use Rattle.hierarchy.specs.Built.{IsOperation, graph_of}
use Rattle.hierarchy.specs.Wires.{led}
use Rattle.hierarchy.proofs.Building.{pair_added}
use Rattle.hierarchy.proofs.operation.add_stage.Goals as goal

pub returns-clause-added : goal.returns-clause-added
returns-clause-added c =
    let w = led c.args.level.now.leds.now c.args.level.now.own.now in
    let l = label_view (out-Vertex c.args.vertex.now) in
    let old = c.args.all.now in
    let x = c.in_ok-get_half.field-0 in
    let y = c.in_ok-set_half.field-0 in
    let long = old.vertices.ok.0 in
    let get : c.in_ok-get.get ≡ length old.vertices.items = c.in_ok-get.ensures.same ∙ c.len.ensures ∙ long in
    let one = c.in_ok-set.ensures.same in
    let count = c.len-2.ensures in
    let set : c.in_ok-set.set ≡ suc (length old.vertices.items) = omega (arith, one, count, long) in
    let takes : IsOperation w l (map level_source c.args.ins.items) [] y = c.in_ok-set_half.ensures.is in
    pair_added (graph_of old) (record {
      vertices = c.push-2.new.self.items;
      bodies =
          old.bodies.items;
    }) w l c.args.stage.now.number c.args.stage.now.values.now (map level_source c.args.ins.items) x y c.args.stage.now.path.now
    x.name y.name c.in_ok-get.get c.in_ok-set.set
    (c.in_ok-push-2.ensures.items ∙ ap
    (λ xs. xs ++ y ∷ []) c.in_ok-push.ensures.items) refl get set c.in_ok-get_half.ensures.name c.in_ok-set_half.ensures.name
    c.in_ok-get_half.ensures.is refl c.in_ok-get_half.ensures.task c.in_ok-get_half.ensures.twin takes refl c.in_ok-set_half.ensures.task c.in_ok-set_half.ensures.twin
