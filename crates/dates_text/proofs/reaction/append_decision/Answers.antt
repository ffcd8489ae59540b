use Rattle.std.proofs.Common.{◌≡◌, ◌++◌, List, [], ◌∷◌, map, ap, sym, subst, ◌∙◌}
use Rattle.self_timed.specs.declared.Transfer.{Transfer}
use Rattle.self_timed.specs.Acts.{carry, run}
use Rattle.self_timed.specs.declared.dates.Span.{Span}
use Rattle.self_timed.specs.Told.{reaction_at}
use Rattle.dates_text.specs.Listing.{Dated, dated}
use Rattle.dates_text.specs.Printed.{Appends, dated_by}
use Rattle.dates_text.proofs.Left.{carried, one, both}
use Rattle.dates_text.proofs.reaction.append_decision.Goals as goal

pub returns : goal.returns
returns c =
    let r = c.args.reaction.now in
    let g = r.flat.now in
    let a = r.archi.now in
    let k = r.number in
    let row = reaction_at r.dates.now k in
    let x = c.args.decision.now in
    let ts = c.as_slice.result.now in
    let d : Dated = dated k c.span_of-span.result (run x) in
    let out = c.args.out.now.items in
    let middle = c.append_transfers.new.out.items in
    let new = c.append_operation.new.out.items in
    let whole : dated_by k row c.args.next (map carry ts) ++ d ∷ [] ≡ dated_by k row c.args.next (map carry x.transfers ++ run x ∷ [])
    = ap (λ (l : List Transfer). dated_by k row c.args.next (map carry l) ++ d ∷ []) c.as_slice.ensures
    ∙ ap (λ (w : Span). dated_by k row c.args.next (map carry x.transfers) ++ dated k w (run x) ∷ []) c.span_of-span.ensures
    ∙ sym (carried k row c.args.next x.transfers (run x ∷ [])) in
    subst (λ (l : List Dated). Appends g a out new c.max.result l) whole
    (both g a out middle new c.in_ok-last.last c.span_of-span.result.end c.max.result (dated_by k row c.args.next (map carry ts)) (d ∷ [])
    c.in_ok-last.ensures (one g a middle new d c.in_ok-append_operation.ensures) c.max.ensures)
