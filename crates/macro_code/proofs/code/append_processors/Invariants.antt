use Rattle.std.proofs.Common.{◌≡◌, ◌++◌, drop}
use Rattle.macro_code.specs.Text.{names_of, processors_from}
use Rattle.macro_code.proofs.code.append_processors.Given as goal

-- what is there, with what is left, is the whole
abbrev pub invariant-loop-operator : goal.invariant-loop-operator
invariant-loop-operator l = l.out.items ++ processors_from (names_of l.named) l.program l.operator (drop l.operator l.named.operators.now)
    ≡ l.fn.out.items ++ processors_from (names_of l.named) l.program 0 l.named.operators.now
