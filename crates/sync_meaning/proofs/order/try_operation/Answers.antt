use Rattle.std.proofs.Common.{◌≡◌, Some, slice_get, refl}
use Rattle.flat_graph.proofs.ReadLens.{element_there}
use Rattle.sync_meaning.proofs.Rounds.{tried_once, tried_in_vain}
use Rattle.sync_meaning.proofs.order.try_operation.Goals as goal

pub returns-in_ok-push : goal.returns-in_ok-push
returns-in_ok-push c =
    let vertices = c.args.vertices.now in
    let x = c.index-vertices-at.result in
    let is : slice_get vertices c.args.v ≡ Some x = element_there vertices c.args.v x c.requires.there c.index-vertices-at.is in
    let answer = rw c.deref.ensures.value at c.if-may_run.ensures in
    tried_once vertices c.args.v x c.args.begun.now _ is c.requires.there answer c.requires.begun c.in_ok-push.ensures.items refl

pub returns-else-may_run : goal.returns-else-may_run
returns-else-may_run c =
    let vertices = c.args.vertices.now in
    let x = c.index-vertices-at.result in
    let is : slice_get vertices c.args.v ≡ Some x = element_there vertices c.args.v x c.requires.there c.index-vertices-at.is in
    let answer = rw c.deref.ensures.value at c.if-may_run.ensures in
    tried_in_vain vertices c.args.v x c.args.begun.now is answer c.requires.begun
