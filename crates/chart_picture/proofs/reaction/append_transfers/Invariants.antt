use Rattle.std.proofs.Common.{◌≡◌, ◌+◌, ◌++◌, drop, map}
use Rattle.self_timed.specs.Acts.{carry}
use Rattle.self_timed.specs.Told.{reaction_at}
use Rattle.dates_text.specs.Printed.{dated_by}
use Rattle.chart_picture.specs.DatesPicture.{tiles_text}
use Rattle.chart_picture.proofs.reaction.append_transfers.Given as goal

-- the transfers that are left complete the picture
abbrev pub invariant-loop-place : goal.invariant-loop-place
invariant-loop-place l =
    let r = l.reaction in
    let sheet = r.sheet.now in
    let row = reaction_at r.dates.now r.number in
    l.out.items ++ tiles_text sheet.flat.now sheet.archi.now sheet.scale (dated_by r.number row (l.first + l.place) (map carry (drop l.place l.transfers)))
    ≡ l.fn.out.items ++ tiles_text sheet.flat.now sheet.archi.now sheet.scale (dated_by r.number row l.first (map carry l.transfers))
