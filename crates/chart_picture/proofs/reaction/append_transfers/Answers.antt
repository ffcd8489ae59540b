use Rattle.std.proofs.Common.{◌≡◌, ◌+◌, [], ◌∷◌, drop, map, get_or, ap, sym, ◌∙◌}
use Rattle.std.proofs.lemmas.List.{get_or_default}
use Rattle.self_timed.specs.declared.Transfer.{Transfer}
use Rattle.self_timed.specs.Acts.{carry}
use Rattle.self_timed.specs.declared.dates.Span.{Span}
use Rattle.self_timed.specs.Told.{reaction_at}
use Rattle.dates_text.specs.Listing.{Dated, dated}
use Rattle.dates_text.specs.Printed.{dated_by}
use Rattle.dates_text.proofs.Left.{transfer_from}
use Rattle.chart_picture.proofs.Told.{goes_on, one}
use Rattle.chart_picture.proofs.reaction.append_transfers.Goals as goal

pub loop-place-preserved : goal.loop-place-preserved
loop-place-preserved c =
    let r = c.args.reaction.now in
    let sheet = r.sheet.now in
    let g = sheet.flat.now in
    let a = sheet.archi.now in
    let k = r.number in
    let row = reaction_at r.dates.now k in
    let ts = c.args.transfers.now in
    let i = c.loop-place.place in
    let none : Transfer = record { source = record { vertex = 0; port = 0 }; medium = 0; from = 0; to = 0; start = 0; end = 0 } in
    let t : Transfer = get_or ts i none in
    let left = dated_by k row (c.args.first + i) (map carry (drop i ts)) in
    let next = dated_by k row (c.args.first + (i + 1)) (map carry (drop (i + 1) ts)) in
    let all = dated_by k row c.args.first (map carry ts) in
    let d : Dated = dated k c.span_of-span.result (carry t) in
    let one_more : left ≡ d ∷ next
    = transfer_from k row c.args.first ts i t c.loop-place-test.true (get_or_default ts i none t c.loop-place-test.true) ∙ ap (λ (w : Span). dated k w (carry t) ∷ next) (sym c.span_of-span.ensures) in
    goes_on g a sheet.scale c.args.out.now.items c.loop-place.out.items c.append_carry.new.out.items (d ∷ []) left next all
    c.loop-place.invariant one_more (one g a sheet.scale c.loop-place.out.items c.append_carry.new.out.items d c.in_ok-append_carry.ensures)
