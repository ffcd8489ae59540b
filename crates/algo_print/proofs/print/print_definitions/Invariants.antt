use Rattle.std.proofs.Common.{◌≡◌, ◌++◌, drop}
use Rattle.algo_print.specs.Canonical.{text_of, definition_lines}
use Rattle.algo_print.proofs.print.print_definitions.Given as goal

abbrev pub invariant-loop-def : goal.invariant-loop-def
invariant-loop-def l = l.text.items ++ text_of (definition_lines l.version (drop l.def-index l.defs)) ≡ l.initial.text.items ++ text_of (definition_lines l.version l.defs)
