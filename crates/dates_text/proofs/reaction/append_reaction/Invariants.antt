use Rattle.std.proofs.Common.{length, drop}
use Rattle.self_timed.specs.Acts.{acts_of}
use Rattle.self_timed.specs.Told.{reaction_at}
use Rattle.dates_text.specs.Printed.{Fit, dated_by}
use Rattle.dates_text.proofs.reaction.append_reaction.Given as goal
use Rattle.dates_text.proofs.Left.{IsLeft}

-- the decisions that are left fit, and complete the text
abbrev pub invariant-loop-decision : goal.invariant-loop-decision
invariant-loop-decision l =
    let r = l.reaction in
    let k = r.number in
    let row = reaction_at r.dates.now k in
    record {
      fit : Fit (length row) l.next (drop l.decision-index l.decisions);
      left : IsLeft r.flat.now r.archi.now l.fn.out.items l.out.items l.latest
          (dated_by k row l.next (acts_of (drop l.decision-index l.decisions))) (dated_by k row (length r.flat.now.vertices) (acts_of l.decisions));
    }
