use Rattle.std.proofs.Common.{◌≡◌, ◌++◌, drop, map}
use Rattle.algo_print.specs.Canonical.{text_of, frontier_words}
use Rattle.algo_print.proofs.blocks.print_frontiers.Given as goal

abbrev pub invariant-loop-line : goal.invariant-loop-line
invariant-loop-line l = l.text.items ++ text_of (map frontier_words (drop l.line-index l.lines)) ≡ l.initial.text.items ++ text_of (map frontier_words l.lines)
