use Rattle.std.proofs.Common.{◌≡◌, ◌++◌, List, [], length, refl, sym, ap, subst, ◌∙◌}
use Rattle.syn_base.specs.Bytes.{Bytes}
use Rattle.self_timed.specs.declared.Vertex.{Vertex}
use Rattle.self_timed.specs.declared.Decision.{Decision}
use Rattle.self_timed.specs.Acts.{acts, acts_of}
use Rattle.dates_text.specs.Listing.{Dated, dated_in}
use Rattle.dates_text.specs.Printed.{EachFits, dates_up_to, entry_span}
use Rattle.dates_text.proofs.Entered.{told_is}
use Rattle.dates_text.proofs.Fitting.{each_fits}
use Rattle.trace_events.specs.Events.{closing, opening, text_of}
use Rattle.trace_events.specs.Trace.{lanes}
use Rattle.trace_events.specs.DatesTrace.{told}
use Rattle.trace_events.proofs.Told.{joined, whole}
use Rattle.trace_events.proofs.trace.trace_of.Goals as goal

pub append_reactions-requires : goal.append_reactions-requires
append_reactions-requires c =
    subst (λ (ds : List Decision). EachFits (record { vertices = c.vertices.result.now; bodies = [] }) ds c.args.dates.now) (sym c.as_slice.ensures)
    (subst (λ (vs : List Vertex). EachFits (record { vertices = vs; bodies = [] }) c.args.schedule.now.decisions c.args.dates.now) (sym c.vertices.ensures.same)
    (each_fits c.args.flat.now c.args.archi.now c.args.schedule.now c.args.dates.now c.requires.valid c.requires.entries))

pub returns : goal.returns
returns c =
    let g = c.args.flat.now in
    let a = c.args.archi.now in
    let s = c.args.schedule.now in
    let dates = c.args.dates.now in
    let n = length dates in
    let vs = c.vertices.result.now in
    let os = c.operators.result.now in
    let ds = c.as_slice.result.now in
    joined c.new-text.result.items c.append_opening.new.out.items c.append_lanes.new.out.items c.append_reactions.new.out.items c.append_closing.new.out.items
    opening (text_of (lanes a)) (told vs os ds (dates_up_to dates (length vs) (acts_of ds) n)) closing
    c.new-text.ensures.items c.in_ok-append_opening.ensures c.in_ok-append_lanes.ensures c.in_ok-append_reactions.ensures c.in_ok-append_closing.ensures
    ∙ (λ i. opening ++ (text_of (lanes a) ++ (told (c.vertices.ensures.same i) (c.operators.ensures.same i) (c.as_slice.ensures i)
    (dates_up_to dates (length (c.vertices.ensures.same i)) (acts_of (c.as_slice.ensures i)) n) ++ closing)))
    ∙ ap (λ (xs : List Dated). opening ++ (text_of (lanes a) ++ (told g.vertices a.operators s.decisions xs ++ closing)))
    (told_is g s dates (entry_span g s dates) n (λ k l i x e. refl))
    ∙ sym (whole g a s (dated_in (entry_span g s dates) n (acts s)))
