use Rattle.std.proofs.Common.{◌≡◌, ◌+◌, ◌++◌, drop, map, length, ◌∙◌}
use Rattle.std.specs.List.{flat_map}
use Rattle.self_timed.specs.Acts.{acts_of, carry}
use Rattle.svg_text.proofs.Appending.{goes_on}
use Rattle.chart_picture.specs.Arrows.{links_from}
use Rattle.chart_picture.proofs.Reading.{sources_step}
use Rattle.chart_picture.proofs.arrows.append_links.Goals as goal

pub loop-decision-preserved : goal.loop-decision-preserved
loop-decision-preserved c =
    let sheet = c.args.sheet.now in
    let ds = c.args.decisions.now in
    let all = acts_of ds in
    let v = sheet.flat.now.vertices in
    let n = length sheet.archi.now.operators in
    let i = c.loop-decision.decision-index in
    let d = c.decision-item.result in
    let m = c.loop-decision.out.items in
    goes_on c.args.out.now.items m c.append_links_from.new.out.items (flat_map (links_from v n sheet.scale all) (map carry d.transfers))
    (flat_map (links_from v n sheet.scale all) (acts_of (drop i ds))) (flat_map (links_from v n sheet.scale all) (acts_of (drop (i + 1) ds))) (flat_map (links_from v n sheet.scale all) all)
    (c.in_ok-append_links_from.ensures ∙ (λ j. m ++ flat_map (links_from v n sheet.scale all) (map carry (c.as_slice.ensures j))))
    (sources_step v n sheet.scale all ds i d c.loop-decision-test.true c.decision-item.is)
    c.loop-decision.invariant
