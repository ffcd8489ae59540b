use Rattle.std.proofs.Common.{◌≡◌, ◌++◌, drop}
use Rattle.timing_chart.specs.Chart.{text_of}
use Rattle.report_text.specs.Text.{alone_lines}
use Rattle.report_text.proofs.reaction.append_alone_lines.Given as goal

-- what is there, with the lines of the operators that are left, is the whole
abbrev pub invariant-loop-number : goal.invariant-loop-number
invariant-loop-number l =
    l.out.items ++ text_of (alone_lines (drop l.number l.operators) (drop l.number l.list))
    ≡ l.fn.out.items ++ text_of (alone_lines l.operators l.list)
