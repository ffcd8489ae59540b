use Rattle.algo_tree.proofs.Passes.{keeps_meaning}
use Rattle.algo_tree.proofs.pass_laws.same_nodes_keep_the_meaning.Goals as goal

pub returns : goal.returns
returns c = keeps_meaning
