use Rattle.std.proofs.Common.{◌≡◌, ◌++◌, drop}
use Rattle.graph_drawing.specs.FlatDrawing.{operator_keys}
use Rattle.graph_drawing.proofs.legend.append_operator_keys.Given as goal

-- what is there, with the operators that are left, is the whole
abbrev pub invariant-loop-number : goal.invariant-loop-number
invariant-loop-number l =
    l.out.items ++ operator_keys l.number (drop l.number l.operators)
    ≡ l.fn.out.items ++ operator_keys 0 l.operators
