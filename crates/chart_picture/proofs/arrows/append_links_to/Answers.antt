use Rattle.std.proofs.Common.{◌≡◌, ◌+◌, ◌++◌, [], ◌∷◌, drop, map, length, sym, ◌∙◌, append_assoc}
use Rattle.self_timed.specs.Acts.{acts_of, carry, run}
use Rattle.svg_text.proofs.Appending.{goes_on, two}
use Rattle.chart_picture.specs.Arrows.{links_to}
use Rattle.chart_picture.proofs.Reading.{readers_step}
use Rattle.chart_picture.proofs.arrows.append_links_to.Goals as goal

pub loop-reader-preserved : goal.loop-reader-preserved
loop-reader-preserved c =
    let sheet = c.args.sheet.now in
    let v = sheet.flat.now.vertices in
    let n = length sheet.archi.now.operators in
    let t = c.args.transfer in
    let ds = c.args.readers.now in
    let i = c.loop-reader.reader-index in
    let d = c.reader-item.result in
    let m = c.loop-reader.out.items in
    let relays = links_to v n sheet.scale t (map carry d.transfers) in
    let own = links_to v n sheet.scale t (run d ∷ []) in
    let next = links_to v n sheet.scale t (acts_of (drop (i + 1) ds)) in
    goes_on c.args.out.now.items m c.append_reader.new.out.items (relays ++ own) (links_to v n sheet.scale t (acts_of (drop i ds))) next (links_to v n sheet.scale t (acts_of ds))
    (c.in_ok-append_reader.ensures
    ∙ two m c.append_relays.new.out.items (links_to v n sheet.scale t (map carry c.as_slice.result.now)) own c.in_ok-append_relays.ensures
    ∙ (λ j. m ++ (links_to v n sheet.scale t (map carry (c.as_slice.ensures j)) ++ own)))
    (readers_step v n sheet.scale t ds i d c.loop-reader-test.true c.reader-item.is ∙ sym (append_assoc relays own next))
    c.loop-reader.invariant
