use Rattle.std.proofs.Common.{◌≡◌, ◌<◌, length, Some, slice_get, refl, arith}
use Rattle.algo_tree.specs.Meaning.{node}
use Rattle.algo_tree.specs.View.{view}
use Rattle.hierarchy.specs.Order.{nodes_of}
use Rattle.hierarchy.proofs.Nodes.{node_at, length-nodes_of}
use Rattle.hierarchy.proofs.Rounds.{tried_once, tried_in_vain}
use Rattle.hierarchy.proofs.order.try_vertex.Goals as goal

pub returns-in_ok-push : goal.returns-in_ok-push
returns-in_ok-push c =
    let us = c.args.vertices.now.items in
    let cs = nodes_of us in
    let u = c.index.result.now in
    let is : slice_get cs c.args.r ≡ Some (node (view u)) = rw (← c.index.ensures) at (node_at us c.args.r u c.requires.there) in
    let lt : c.args.r < length cs = omega (arith, length-nodes_of us, c.requires.there) in
    let answer = rw c.deref.ensures.value at c.if-may_run.ensures in
    tried_once cs c.args.r (node (view u)) c.args.begun.now _ is lt answer c.requires.begun c.in_ok-push.ensures.items refl

pub returns-else-may_run : goal.returns-else-may_run
returns-else-may_run c =
    let us = c.args.vertices.now.items in
    let cs = nodes_of us in
    let u = c.index.result.now in
    let is : slice_get cs c.args.r ≡ Some (node (view u)) = rw (← c.index.ensures) at (node_at us c.args.r u c.requires.there) in
    let answer = rw c.deref.ensures.value at c.if-may_run.ensures in
    tried_in_vain cs c.args.r (node (view u)) c.args.begun.now is answer c.requires.begun
