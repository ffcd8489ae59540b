use Rattle.std.proofs.Common.{◌≡◌, ◌++◌, length}
use Rattle.self_timed.specs.Acts.{acts_of}
use Rattle.dates_text.specs.Printed.{dates_up_to}
use Rattle.trace_events.specs.DatesTrace.{told}
use Rattle.trace_events.proofs.trace.append_reactions.Given as goal

-- the reactions so far were appended
abbrev pub invariant-loop-number : goal.invariant-loop-number
invariant-loop-number l =
    let t = l.traced in
    l.out.items ≡ l.fn.out.items ++ told t.vertices.now t.operators.now t.decisions.now (dates_up_to l.dates (length t.vertices.now) (acts_of t.decisions.now) l.number)
