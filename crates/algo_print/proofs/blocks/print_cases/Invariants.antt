use Rattle.std.proofs.Common.{◌≡◌, ◌++◌, drop, map}
use Rattle.algo_print.specs.Canonical.{text_of, case_words}
use Rattle.algo_print.proofs.blocks.print_cases.Given as goal

abbrev pub invariant-loop-case : goal.invariant-loop-case
invariant-loop-case l = l.text.items ++ text_of (map case_words (drop l.case-index l.cases)) ≡ l.initial.text.items ++ text_of (map case_words l.cases)
