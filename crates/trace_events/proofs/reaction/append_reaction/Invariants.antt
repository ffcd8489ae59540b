use Rattle.std.proofs.Common.{◌≡◌, ◌++◌, length, drop}
use Rattle.self_timed.specs.Acts.{acts_of}
use Rattle.self_timed.specs.Told.{reaction_at}
use Rattle.dates_text.specs.Printed.{Fit, dated_by}
use Rattle.trace_events.specs.DatesTrace.{told}
use Rattle.trace_events.proofs.reaction.append_reaction.Given as goal

-- the decisions that are left fit, and complete the text
abbrev pub invariant-loop-decision : goal.invariant-loop-decision
invariant-loop-decision l =
    let r = l.reaction in
    let k = r.number in
    let row = reaction_at r.dates.now k in
    let vs = r.traced.vertices.now in
    let ds = r.traced.decisions.now in
    record {
      fit : Fit (length row) l.next (drop l.decision-index ds);
      text : l.out.items ++ told vs r.traced.operators.now ds (dated_by k row l.next (acts_of (drop l.decision-index ds)))
          ≡ l.fn.out.items ++ told vs r.traced.operators.now ds (dated_by k row (length vs) (acts_of ds));
    }
