use Rattle.std.proofs.Common.{◌≡◌, true, length, arith}
use Rattle.algo_tree.specs.Order.{settled}
use Rattle.hierarchy.specs.Order.{nodes_of}
use Rattle.hierarchy.proofs.Nodes.{length-nodes_of}
use Rattle.hierarchy.proofs.Rounds.{settled_more, order_if_done}
use Rattle.hierarchy.proofs.order.order_by_rounds.Goals as goal

pub loop-round-preserved : goal.loop-round-preserved
loop-round-preserved c =
    let cs = nodes_of c.args.vertices.now.items in
    record {
      begun = c.in_ok-one_round.ensures.begun;
      so_far = settled_more cs c.loop-round.round c.loop-round.begun c.one_round.new.begun c.loop-round.invariant.so_far c.in_ok-one_round.ensures;
    }

pub returns : goal.returns
returns c =
    let l = c.loop-round in
    let cs = nodes_of c.args.vertices.now.items in
    let rounds : l.round ≡ length cs = omega (arith, length-nodes_of c.args.vertices.now.items, c.len-round-end.ensures) in
    order_if_done cs l.begun l.invariant.begun (λ r lt. let done : settled cs l.round r ≡ true = rw rounds (c.requires.acyclic r lt) in l.invariant.so_far r done)
