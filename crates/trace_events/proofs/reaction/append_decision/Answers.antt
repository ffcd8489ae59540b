use Rattle.std.proofs.Common.{◌≡◌, ◌+◌, ◌++◌, List, [], ◌∷◌, map, ap, sym, ◌∙◌}
use Rattle.std.proofs.lemmas.Result.{on_ok_weaker}
use Rattle.syn_base.specs.Bytes.{Bytes}
use Rattle.self_timed.specs.declared.Transfer.{Transfer}
use Rattle.self_timed.specs.Acts.{carry, run}
use Rattle.self_timed.specs.Told.{reaction_at, span_at}
use Rattle.trace_events.specs.declared.event.Moment.{Moment}
use Rattle.trace_events.specs.Events.{text_of}
use Rattle.trace_events.specs.Trace.{act_events}
use Rattle.dates_text.specs.Listing.{Dated, dated}
use Rattle.dates_text.specs.Printed.{dated_by}
use Rattle.dates_text.proofs.Left.{carried}
use Rattle.trace_events.specs.DatesTrace.{told}
use Rattle.trace_events.proofs.Told.{both, one}
use Rattle.trace_events.proofs.reaction.append_decision.Goals as goal

pub returns : goal.returns
returns c =
    let r = c.args.reaction.now in
    let vs = r.traced.vertices.now in
    let os = r.traced.operators.now in
    let ds = r.traced.decisions.now in
    let k = r.number in
    let row = reaction_at r.dates.now k in
    let x = c.args.decision.now in
    let ts = c.as_slice.result.now in
    let d : Dated = dated k (span_at r.dates.now k x.op) (run x) in
    let old = c.args.out.now.items in
    let middle = c.append_transfers.new.out.items in
    let new = c.append_operation.new.out.items in
    let front = dated_by k row c.args.next (map carry ts) in
    let whole : front ++ d ∷ [] ≡ dated_by k row c.args.next (map carry x.transfers ++ run x ∷ [])
    = ap (λ (l : List Transfer). dated_by k row c.args.next (map carry l) ++ d ∷ []) c.as_slice.ensures
    ∙ sym (carried k row c.args.next x.transfers (run x ∷ [])) in
    on_ok_weaker c.append_operation.result (λ (e : new ≡ middle ++ text_of (act_events vs os ds c.moment_of-moment.result (run x))).
    both vs os ds old middle new front (d ∷ []) c.in_ok-append_transfers.ensures
    (e ∙ ap (λ (m : Moment). middle ++ text_of (act_events vs os ds m (run x))) c.moment_of-moment.ensures ∙ ap (λ (b : Bytes). middle ++ b) (one vs os ds d))
    ∙ ap (λ (l : List Dated). old ++ told vs os ds l) whole) c.append_operation.ensures
