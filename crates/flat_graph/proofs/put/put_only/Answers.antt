use Rattle.std.proofs.Common.{length, ◌∙◌}
use Rattle.flat_graph.proofs.Fill.{only_set}
use Rattle.flat_graph.proofs.put.put_only.Goals as goal

pub returns : goal.returns
returns c = c.set_vector.ensures ∙ only_set c.args.outs.now (length c.args.vector.now) c.args.vector.now c.requires
