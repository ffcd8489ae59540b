use Rattle.std.proofs.Common.{◌≡◌, take, map}
use Rattle.graph_code.specs.Places.{span_of}
use Rattle.graph_code.proofs.operation.condition_spans.Given as goal

abbrev pub invariant-loop-guard : goal.invariant-loop-guard
invariant-loop-guard l = l.spans.items ≡ map (λ g. span_of l.vertices g.source) (take l.guard-index l.guards)
