use Rattle.std.proofs.Common.{◌≡◌, ◌++◌}
use Rattle.self_timed.specs.Acts.{acts_of}
use Rattle.chart_picture.specs.Printed.{drawn_up_to}
use Rattle.chart_picture.proofs.dates.append_reactions.Given as goal

-- the reactions so far were appended
abbrev pub invariant-loop-number : goal.invariant-loop-number
invariant-loop-number l =
    l.out.items ≡ l.fn.out.items ++ drawn_up_to l.sheet.flat.now l.sheet.archi.now l.sheet.scale l.dates (acts_of l.decisions) l.number
