use Rattle.std.proofs.Common.{◌≡◌, ◌++◌, drop}
use Rattle.self_timed.specs.Acts.{acts_of}
use Rattle.chart_picture.specs.Picture.{operator_lanes}
use Rattle.chart_picture.proofs.picture.append_operators.Given as goal

-- what is there, with the lanes of the operators that are left, is the whole
abbrev pub invariant-loop-operator : goal.invariant-loop-operator
invariant-loop-operator l =
    l.out.items ++ operator_lanes l.sheet.flat.now l.sheet.archi.now l.sheet.scale (acts_of l.decisions) l.operator (drop l.operator l.operators)
    ≡ l.fn.out.items ++ operator_lanes l.sheet.flat.now l.sheet.archi.now l.sheet.scale (acts_of l.decisions) 0 l.operators
