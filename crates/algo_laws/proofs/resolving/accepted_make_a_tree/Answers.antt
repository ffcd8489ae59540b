use Rattle.algo_laws.proofs.Whole.{make_a_tree}
use Rattle.algo_laws.proofs.resolving.accepted_make_a_tree.Goals as goal

pub returns : goal.returns
returns c = make_a_tree
