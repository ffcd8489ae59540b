use Rattle.std.specs.Prelude.{pos}
use Rattle.std.proofs.lemmas.List.{take-replicate}
use Rattle.flat_graph.proofs.put.zero_vector.Goals as goal

pub returns : goal.returns
returns c = take-replicate c.args.len 64 (pos 0) c.requires
