use Rattle.std.proofs.Common.{◌==◌, ◌-◌, length, take, drop, ap, ◌∙◌}
use Rattle.std.specs.List.{list_all}
use Rattle.flat_graph.specs.Graph.{len_of}
use Rattle.flat_graph.proofs.Bodies.{equally_long}
use Rattle.flat_graph.proofs.lengths.are_equally_long.Goals as goal

pub returns-in-len1-up : goal.returns-in-len1-up
returns-in-len1-up c =
    let vertices = c.args.vertices.now in
    let sources = c.args.sources.now in
    c.have_length.ensures
    ∙ ap (λ n. list_all (λ s. len_of vertices s == n) (take (length sources - 1) (drop 1 sources))) c.len_of.ensures
    ∙ equally_long vertices sources (record { vertex = 0; port = 0 }) c.in-len1-up.len_at_least
