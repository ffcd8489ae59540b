use Rattle.std.proofs.Common.{◌≡◌, map}
use Rattle.std.specs.List.{range_with_len}
use Rattle.reference_graph.specs.Links.{reaches_itself}
use Rattle.reference_graph.proofs.search.reaching.Given as goal

abbrev pub invariant-loop-a : goal.invariant-loop-a
invariant-loop-a l = l.answers.items ≡ map (reaches_itself l.links) (range_with_len 0 l.a)
