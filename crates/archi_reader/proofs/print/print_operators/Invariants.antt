use Rattle.std.proofs.Common.{◌≡◌, ◌++◌, drop, map}
use Rattle.archi_reader.specs.Canonical.{text_of, operator_words}
use Rattle.archi_reader.proofs.print.print_operators.Given as goal

-- what is left completes the text
abbrev pub invariant-loop-operator : goal.invariant-loop-operator
invariant-loop-operator l = l.text.items ++ text_of (map operator_words (drop l.operator-index l.operators)) ≡ l.fn.text.items ++ text_of (map operator_words l.operators)
