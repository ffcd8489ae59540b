use Rattle.std.proofs.Common.{◌≡◌, take, map}
use Rattle.graph_code.specs.Places.{span_of}
use Rattle.graph_code.proofs.operation.spans_of.Given as goal

abbrev pub invariant-loop-source : goal.invariant-loop-source
invariant-loop-source l = l.spans.items ≡ map (span_of l.vertices) (take l.source-index l.sources)
