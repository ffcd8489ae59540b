use Rattle.std.proofs.Common.{◌≡◌, ◌++◌, drop, map}
use Rattle.algo_print.specs.Canonical.{text_of, edge_words}
use Rattle.algo_print.proofs.blocks.print_edges.Given as goal

abbrev pub invariant-loop-edge : goal.invariant-loop-edge
invariant-loop-edge l = l.text.items ++ text_of (map edge_words (drop l.edge-index l.edges)) ≡ l.initial.text.items ++ text_of (map edge_words l.edges)
