use Rattle.std.proofs.Common.{◌≡◌, ◌+◌, take}
use Rattle.std.specs.List.{sum_by}
use Rattle.flat_graph.specs.Graph.{len_of}
use Rattle.flat_graph.proofs.lengths.sources_add_up.Given as goal

-- what is left, and the parts so far
abbrev pub invariant-loop-source : goal.invariant-loop-source
invariant-loop-source l = l.left + sum_by (len_of l.vertices) (take l.source-index l.sources) ≡ l.len
