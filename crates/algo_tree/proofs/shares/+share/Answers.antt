use Rattle.algo_tree.proofs.Views.{shared_answered}
use Rattle.algo_tree.proofs.shares.+share.Goals as goal

pub share_vertex-returns : goal.share_vertex-returns
share_vertex-returns t c = shared_answered c.args.vertex.now c.in_ok-inner.inner.items c.with_inside.result c.in_ok-inner.ensures c.with_inside.ensures
