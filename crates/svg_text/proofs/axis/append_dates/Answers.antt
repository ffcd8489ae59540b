use Rattle.std.proofs.Common.{ℕ, ◌+◌, ◌-◌, ◌<◌, ◌++◌, ap, subst, ◌∙◌}
use Rattle.std.specs.List.{flat_map, range_with_len}
use Rattle.svg_text.specs.Axis.{date_text, tick_text}
use Rattle.svg_text.specs.Scale.{steps_of}
use Rattle.svg_text.proofs.Appending.{goes_on, number_more}
use Rattle.svg_text.proofs.axis.append_dates.Goals as goal

pub loop-k-preserved : goal.loop-k-preserved
loop-k-preserved c =
    let f = tick_text c.args.scale c.args.height in
    let n = steps_of c.args.scale in
    let k = c.loop-k.k in
    goes_on c.args.out.now.items c.loop-k.out.items c.append_date.new.out.items (f k) (flat_map f (range_with_len k (n - k)))
    (flat_map f (range_with_len (k + 1) (n - (k + 1)))) (flat_map f (range_with_len 0 n))
    (c.in_ok-append_date.ensures ∙ ap (λ (d : ℕ). c.loop-k.out.items ++ date_text c.args.scale c.args.height d) c.date.ensures)
    (number_more f k n (subst (λ (m : ℕ). k < m) c.steps-k-end.ensures.steps c.loop-k-test.true)) c.loop-k.invariant
