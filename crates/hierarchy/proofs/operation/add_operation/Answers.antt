use Rattle.std.proofs.Common.{length, map, ap, ◌∙◌, subst}
use Rattle.flat_graph.specs.Meaning.{level_source}
use Rattle.algo_tree.specs.View.{kind_view, label_view}
use Rattle.algo_tree.specs.declared.vertex.Vertex.{out-Vertex}
use Rattle.hierarchy.specs.Built.{IsOperation, graph_of}
use Rattle.hierarchy.specs.Wires.{led}
use Rattle.hierarchy.proofs.Building.{run_added, Brings}
use Rattle.hierarchy.proofs.operation.add_operation.Goals as goal
use Rattle.flat_laws.specs.FlatOf.{kind_body}

pub returns-clause-added : goal.returns-clause-added
returns-clause-added c =
    let w = led c.args.level.now.leds.now c.args.level.now.own.now in
    let l = label_view (out-Vertex c.args.vertex.now) in
    let kind = kind_view (out-Vertex c.args.vertex.now).kind in
    let task = c.in_ok-task.field-0 in
    let x = c.in_ok-operation.field-0 in
    let bodies = c.task.new.bodies.items in
    let taken = c.in_ok-ins.ensures ∙ ap (map w) c.as_slice.ensures in
    let is : IsOperation w l (map w l.ins) l.outs x =
    subst (λ ins. IsOperation w l ins l.outs x) taken (subst (λ outs. IsOperation w l (map level_source c.in_ok-ins.ins.items) outs x) c.as_slice-2.ensures c.in_ok-operation.ensures.is) in
    let brings : Brings (length c.args.all.now.bodies.items) (length (kind_body kind)) task =
    record { numbered = c.in_ok-task.ensures.numbered; many = c.in_ok-task.ensures.many } in
    run_added (graph_of c.args.all.now) (record { vertices = c.push.new.self.items; bodies = bodies }) w l x c.args.path.items kind task (kind_body kind)
    c.in_ok-push.ensures.items c.in_ok-task.ensures.added is c.in_ok-operation.ensures.name c.in_ok-operation.ensures.task c.in_ok-operation.ensures.twin c.in_ok-task.ensures.task brings
