use Rattle.algo_tree.proofs.Passes.{keeps_by_steps}
use Rattle.algo_tree.proofs.pass_laws.steps_keep_the_meaning.Goals as goal

pub returns : goal.returns
returns c = keeps_by_steps
