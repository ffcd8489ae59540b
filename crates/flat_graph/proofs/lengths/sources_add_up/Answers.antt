use Rattle.std.proofs.Common.{arith}
use Rattle.std.proofs.lemmas.List.Sums.{sum_by_more_le}
use Rattle.flat_graph.specs.Graph.{len_of}
use Rattle.flat_graph.proofs.Bodies.{differ}
use Rattle.flat_graph.proofs.lengths.sources_add_up.Goals as goal

pub returns-then-left-part : goal.returns-then-left-part
returns-then-left-part c =
    let more = sum_by_more_le (len_of c.args.vertices.now) c.args.sources.now c.loop-source.source-index (record { vertex = 0; port = 0 }) c.loop-source-test.true in
    differ _ _ (let part = c.len_of-part.ensures in omega (arith, more, part))
