use Rattle.std.proofs.Common.{◌≡◌, ◌++◌, take}
use Rattle.flat_graph.specs.Graph.{lens_of}
use Rattle.sync_meaning.proofs.layout.push_lens.Given as goal

abbrev pub invariant-loop-source : goal.invariant-loop-source
invariant-loop-source l = l.lens.items ≡ l.initial.lens.items ++ lens_of l.vertices (take l.source-index l.sources)
