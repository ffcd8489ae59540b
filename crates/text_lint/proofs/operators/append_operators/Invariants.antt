use Rattle.std.proofs.Common.{◌≡◌, ◌++◌, drop}
use Rattle.text_lint.specs.Architecture.{operators_from}
use Rattle.text_lint.proofs.operators.append_operators.Given as goal

-- what is there, with the findings of the operators that are left, is the whole
abbrev pub invariant-loop-operator : goal.invariant-loop-operator
invariant-loop-operator l = l.found.items ++ operators_from l.known l.lines l.numbers l.operator (drop l.operator l.operators)
    ≡ l.fn.found.items ++ operators_from l.known l.lines l.numbers 0 l.operators
