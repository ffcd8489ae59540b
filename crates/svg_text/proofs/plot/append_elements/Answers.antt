use Rattle.std.proofs.Common.{◌+◌, ◌-◌}
use Rattle.std.specs.List.{flat_map, range_with_len}
use Rattle.svg_text.proofs.Appending.{goes_on, number_more}
use Rattle.svg_text.specs.Plot.{element_text}
use Rattle.svg_text.proofs.plot.append_elements.Goals as goal

pub loop-place-preserved : goal.loop-place-preserved
loop-place-preserved c =
    let panel = c.args.panel.now in
    let f = element_text panel.scale panel.range panel.name.now panel.number panel.rows.now.reactions in
    let n = c.args.count in
    let k = c.loop-place.place in
    goes_on c.args.out.now.items c.loop-place.out.items c.append_element.new.out.items (f k) (flat_map f (range_with_len k (n - k)))
    (flat_map f (range_with_len (k + 1) (n - (k + 1)))) (flat_map f (range_with_len 0 n))
    c.in_ok-append_element.ensures (number_more f k n c.loop-place-test.true) c.loop-place.invariant
