use Rattle.std.proofs.Common.{◌≡◌, ◌++◌, drop, map}
use Rattle.algo_print.specs.Canonical.{text_of, reference_words}
use Rattle.algo_print.proofs.blocks.print_references.Given as goal

abbrev pub invariant-loop-reference : goal.invariant-loop-reference
invariant-loop-reference l = l.text.items ++ text_of (map reference_words (drop l.reference-index l.references)) ≡ l.initial.text.items ++ text_of (map reference_words l.references)
