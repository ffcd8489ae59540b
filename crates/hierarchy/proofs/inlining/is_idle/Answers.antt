use Rattle.algo_tree.specs.Counted.{operations as count}
use Rattle.algo_tree.specs.View.{view}
use Rattle.hierarchy.proofs.Adding.{idle_capped}
use Rattle.hierarchy.proofs.inlining.is_idle.Goals as goal

pub returns : goal.returns
returns c = idle_capped (count (view c.args.vertex.now)) c.count_operations.result c.count_operations.ensures
