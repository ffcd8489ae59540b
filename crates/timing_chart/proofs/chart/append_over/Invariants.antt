use Rattle.std.proofs.Common.{◌≡◌, ◌++◌, drop, map}
use Rattle.std.specs.List.{filter}
use Rattle.schedule.specs.Acts.{acts_of, is_over}
use Rattle.timing_chart.specs.Chart.{act_line, text_of}
use Rattle.timing_chart.proofs.chart.append_over.Given as goal

-- what is there, with the lines of the decisions that are left, is the whole
abbrev pub invariant-loop-decision : goal.invariant-loop-decision
invariant-loop-decision l =
    l.out.items ++ text_of (map (act_line l.named.vertices.now l.named.operators.now) (filter (is_over l.medium) (acts_of (drop l.decision-index l.decisions))))
    ≡ l.fn.out.items ++ text_of (map (act_line l.named.vertices.now l.named.operators.now) (filter (is_over l.medium) (acts_of l.decisions)))
