use Rattle.std.proofs.Common.{◌≡◌, ◌+◌, ◌++◌, List, [], ◌∷◌, drop, map, get_or, ap, sym, ◌∙◌}
use Rattle.std.proofs.lemmas.List.{get_or_default}
use Rattle.syn_base.specs.Bytes.{Bytes}
use Rattle.self_timed.specs.declared.Transfer.{Transfer}
use Rattle.self_timed.specs.Acts.{carry}
use Rattle.self_timed.specs.Told.{reaction_at, span_at}
use Rattle.trace_events.specs.declared.event.Moment.{Moment}
use Rattle.trace_events.specs.Events.{text_of}
use Rattle.trace_events.specs.Trace.{act_events}
use Rattle.dates_text.specs.Listing.{Dated, dated}
use Rattle.dates_text.specs.Printed.{dated_by}
use Rattle.dates_text.proofs.Left.{transfer_from}
use Rattle.trace_events.specs.DatesTrace.{told}
use Rattle.trace_events.proofs.Told.{goes_on, one}
use Rattle.trace_events.proofs.reaction.append_transfers.Goals as goal

pub loop-place-preserved : goal.loop-place-preserved
loop-place-preserved c =
    let r = c.args.reaction.now in
    let vs = r.traced.vertices.now in
    let os = r.traced.operators.now in
    let ds = r.traced.decisions.now in
    let k = r.number in
    let row = reaction_at r.dates.now k in
    let ts = c.args.transfers.now in
    let i = c.loop-place.place in
    let none : Transfer = record { source = record { vertex = 0; port = 0 }; medium = 0; from = 0; to = 0; start = 0; end = 0 } in
    let t : Transfer = get_or ts i none in
    let left = dated_by k row (c.args.first + i) (map carry (drop i ts)) in
    let next = dated_by k row (c.args.first + (i + 1)) (map carry (drop (i + 1) ts)) in
    let all = dated_by k row c.args.first (map carry ts) in
    let d : Dated = dated k (span_at r.dates.now k (c.args.first + i)) (carry t) in
    let out = c.loop-place.out.items in
    let one_more : left ≡ d ∷ next = transfer_from k row c.args.first ts i t c.loop-place-test.true (get_or_default ts i none t c.loop-place-test.true) in
    goes_on vs os ds (c.args.out.now.items ++ told vs os ds all) out c.append_transfer.new.out.items (d ∷ []) left next c.loop-place.invariant one_more
    (c.in_ok-append_transfer.ensures
    ∙ ap (λ (m : Moment). out ++ text_of (act_events vs os ds m (carry t))) c.moment_of-moment.ensures
    ∙ ap (λ (b : Bytes). out ++ b) (one vs os ds d))
