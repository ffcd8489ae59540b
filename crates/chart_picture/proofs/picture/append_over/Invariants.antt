use Rattle.std.proofs.Common.{◌≡◌, ◌++◌, drop}
use Rattle.self_timed.specs.Acts.{acts_of, is_over}
use Rattle.chart_picture.specs.Bars.{bars_text}
use Rattle.chart_picture.proofs.picture.append_over.Given as goal

-- what is there, with the bars of the decisions that are left, is the whole
abbrev pub invariant-loop-decision : goal.invariant-loop-decision
invariant-loop-decision l =
    l.out.items ++ bars_text l.sheet.flat.now l.sheet.archi.now l.sheet.scale (is_over l.medium) (acts_of (drop l.decision-index l.decisions))
    ≡ l.fn.out.items ++ bars_text l.sheet.flat.now l.sheet.archi.now l.sheet.scale (is_over l.medium) (acts_of l.decisions)
