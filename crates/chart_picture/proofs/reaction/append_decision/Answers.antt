use Rattle.std.proofs.Common.{◌≡◌, ◌++◌, List, [], ◌∷◌, map, ap, sym, subst, ◌∙◌}
use Rattle.std.specs.Prelude.{OnOk}
use Rattle.self_timed.specs.declared.Transfer.{Transfer}
use Rattle.self_timed.specs.Acts.{carry, run}
use Rattle.self_timed.specs.declared.dates.Span.{Span}
use Rattle.self_timed.specs.Told.{reaction_at}
use Rattle.syn_base.specs.Bytes.{Bytes}
use Rattle.dates_text.specs.Listing.{Dated, dated}
use Rattle.dates_text.specs.Printed.{dated_by}
use Rattle.dates_text.proofs.Left.{carried}
use Rattle.chart_picture.specs.DatesPicture.{tiles_text}
use Rattle.chart_picture.proofs.Told.{then_one}
use Rattle.chart_picture.proofs.reaction.append_decision.Goals as goal

pub returns : goal.returns
returns c =
    let r = c.args.reaction.now in
    let sheet = r.sheet.now in
    let g = sheet.flat.now in
    let a = sheet.archi.now in
    let k = r.number in
    let row = reaction_at r.dates.now k in
    let x = c.args.decision.now in
    let ts = c.as_slice.result.now in
    let d : Dated = dated k c.span_of-span.result (run x) in
    let out = c.args.out.now.items in
    let middle = c.append_transfers.new.out.items in
    let whole : dated_by k row c.args.next (map carry ts) ++ d ∷ [] ≡ dated_by k row c.args.next (map carry x.transfers ++ run x ∷ [])
    = ap (λ (l : List Transfer). dated_by k row c.args.next (map carry l) ++ d ∷ []) c.as_slice.ensures
    ∙ ap (λ (w : Span). dated_by k row c.args.next (map carry x.transfers) ++ dated k w (run x) ∷ []) c.span_of-span.ensures
    ∙ sym (carried k row c.args.next x.transfers (run x ∷ [])) in
    subst (λ (l : Bytes). OnOk c.append_run.result (c.append_run.new.out.items ≡ l))
    (then_one g a sheet.scale out middle (dated_by k row c.args.next (map carry ts)) d c.in_ok-append_transfers.ensures ∙ ap (λ (l : List Dated). out ++ tiles_text g a sheet.scale l) whole)
    c.append_run.ensures
