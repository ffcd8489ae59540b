use Rattle.std.proofs.Common.{◌≡◌, ◌++◌, drop}
use Rattle.chart_picture.specs.DatesPicture.{operator_lanes}
use Rattle.chart_picture.proofs.board.append_operators.Given as goal

-- what is there, with the lanes of the operators that are left, is the whole
abbrev pub invariant-loop-operator : goal.invariant-loop-operator
invariant-loop-operator l =
    l.out.items ++ operator_lanes l.width l.operator (drop l.operator l.operators) ≡ l.fn.out.items ++ operator_lanes l.width 0 l.operators
