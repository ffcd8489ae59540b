use Rattle.std.proofs.Common.{◌≡◌, map}
use Rattle.std.specs.List.{range_with_len}
use Rattle.reference_graph.specs.Settled.{depth_by}
use Rattle.reference_graph.proofs.rounds.one_deeper.Given as goal

abbrev pub invariant-loop-a : goal.invariant-loop-a
invariant-loop-a l = l.deeper.items ≡ map (depth_by l.links l.depths) (range_with_len 0 l.a)
