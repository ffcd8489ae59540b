use Rattle.flat_graph.proofs.Sizes.{keeps_lengths}
use Rattle.flat_graph.proofs.laws.lengths_are_kept.Goals as goal

pub returns : goal.returns
returns c = keeps_lengths
