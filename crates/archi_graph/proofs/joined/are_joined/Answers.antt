use Rattle.std.proofs.Common.{◌∙◌, arith}
use Rattle.archi_graph.proofs.Flags.{all_reached}
use Rattle.archi_graph.proofs.joined.are_joined.Goals as goal

pub returns : goal.returns
returns c =
    c.are_all_set.ensures ∙ all_reached c.args.media.now c.reached-reached.result c.args.operators c.requires.few (omega arith) c.reached-reached.ensures
