use Rattle.std.proofs.Common.{◌≡◌, length, arith}
use Rattle.hierarchy.specs.Order.{nodes_of}
use Rattle.hierarchy.proofs.Nodes.{length-nodes_of}
use Rattle.hierarchy.proofs.Rounds.{one_more_tried, all_tried}
use Rattle.hierarchy.proofs.order.one_round.Goals as goal

pub loop-r-preserved : goal.loop-r-preserved
loop-r-preserved c =
    one_more_tried (nodes_of c.args.vertices.now.items) c.loop-r.r c.args.begun.now c.loop-r.begun c.try_vertex.new.begun c.loop-r.invariant c.in_ok-try_vertex.ensures

pub returns : goal.returns
returns c =
    let cs = nodes_of c.args.vertices.now.items in
    let all : c.loop-r.r ≡ length cs = omega (arith, length-nodes_of c.args.vertices.now.items, c.len-r-end.ensures) in
    all_tried cs c.loop-r.r c.args.begun.now c.loop-r.begun all c.loop-r.invariant
