use Rattle.flat_graph.proofs.Rounds.{no_flag}
use Rattle.flat_graph.proofs.order.no_flags.Goals as goal

pub returns : goal.returns
returns c = λ v. no_flag 2048 v
