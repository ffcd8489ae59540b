use Rattle.std.proofs.Common.{◌≡◌, ◌++◌, drop}
use Rattle.std.specs.Prelude.{codes}
use Rattle.timing_chart.specs.Chart.{text_of}
use Rattle.report_text.specs.Text.{load_lines}
use Rattle.report_text.proofs.reaction.append_operators.Given as goal

-- what is there, with the lines of the operators that are left, is the whole
abbrev pub invariant-loop-number : goal.invariant-loop-number
invariant-loop-number l =
    l.out.items ++ text_of (load_lines (codes "operator") (drop l.number l.operators) (drop l.number l.loads))
    ≡ l.fn.out.items ++ text_of (load_lines (codes "operator") l.operators l.loads)
