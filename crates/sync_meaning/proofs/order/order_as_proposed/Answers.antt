use Rattle.sync_meaning.proofs.Rounds.{none_begun}
use Rattle.sync_meaning.proofs.order.order_as_proposed.Goals as goal

pub try_proposed-requires : goal.try_proposed-requires
try_proposed-requires c = none_begun c.args.vertices.now _ c.in_ok-begun.ensures.0 c.in_ok-begun.ensures.1
