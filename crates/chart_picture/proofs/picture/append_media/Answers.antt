use Rattle.std.proofs.Common.{◌+◌, ◌++◌, drop, length, ◌∙◌}
use Rattle.std.specs.Prelude.{codes}
use Rattle.self_timed.specs.Acts.{acts_of, is_over}
use Rattle.svg_text.proofs.Appending.{goes_on}
use Rattle.chart_picture.specs.Picture.{lane_part, medium_lanes}
use Rattle.chart_picture.proofs.Drawn.{medium_step}
use Rattle.chart_picture.proofs.picture.append_media.Goals as goal

pub loop-number-preserved : goal.loop-number-preserved
loop-number-preserved c =
    let sheet = c.args.sheet.now in
    let g = sheet.flat.now in
    let a = sheet.archi.now in
    let xs = acts_of c.args.decisions.now in
    let media = c.args.media.now in
    let i = c.loop-number.number in
    let x = c.index-media-number.result in
    let m = c.loop-number.out.items in
    goes_on c.args.out.now.items m c.append_medium.new.out.items (lane_part g a sheet.scale (codes "medium") (codes "medium-") x.name (length a.operators + i) (is_over i) xs)
    (medium_lanes g a sheet.scale xs i (drop i media)) (medium_lanes g a sheet.scale xs (i + 1) (drop (i + 1) media)) (medium_lanes g a sheet.scale xs 0 media)
    (c.in_ok-append_medium.ensures ∙ (λ j. m ++ lane_part g a sheet.scale (codes "medium") (codes "medium-") (c.as_bytes.ensures.same j) (length a.operators + i) (is_over i) xs))
    (medium_step g a sheet.scale xs media i x c.loop-number-test.true c.index-media-number.is)
    c.loop-number.invariant
