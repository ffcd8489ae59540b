use Rattle.std.proofs.Common.{◌≡◌, ◌++◌, length, drop}
use Rattle.self_timed.specs.Acts.{acts_of}
use Rattle.self_timed.specs.Told.{reaction_at}
use Rattle.dates_text.specs.Printed.{Fit, dated_by}
use Rattle.chart_picture.specs.DatesPicture.{tiles_text}
use Rattle.chart_picture.proofs.reaction.append_decisions.Given as goal

-- the decisions that are left fit, and complete the picture
abbrev pub invariant-loop-decision : goal.invariant-loop-decision
invariant-loop-decision l =
    let r = l.reaction in
    let sheet = r.sheet.now in
    let g = sheet.flat.now in
    let row = reaction_at r.dates.now r.number in
    record {
      fit : Fit (length row) l.next (drop l.decision-index l.decisions);
      left : l.out.items ++ tiles_text g sheet.archi.now sheet.scale (dated_by r.number row l.next (acts_of (drop l.decision-index l.decisions)))
          ≡ l.fn.out.items ++ tiles_text g sheet.archi.now sheet.scale (dated_by r.number row (length g.vertices) (acts_of l.decisions));
    }
