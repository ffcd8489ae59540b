use Rattle.std.proofs.Common.{◌≡◌, ◌++◌, drop}
use Rattle.schedule.specs.Acts.{acts_of}
use Rattle.timing_chart.specs.Chart.{operator_parts, text_of}
use Rattle.timing_chart.proofs.chart.append_operators.Given as goal

-- what is there, with the parts of the operators that are left, is the whole
abbrev pub invariant-loop-operator : goal.invariant-loop-operator
invariant-loop-operator l =
    l.out.items ++ text_of (operator_parts l.named.vertices.now l.named.operators.now (acts_of l.decisions) l.operator (drop l.operator l.named.operators.now))
    ≡ l.fn.out.items ++ text_of (operator_parts l.named.vertices.now l.named.operators.now (acts_of l.decisions) 0 l.named.operators.now)
