use Rattle.std.proofs.Common.{◌≡◌, ℕ, ◌+◌, ◌-◌, ◌++◌, ap, ◌∙◌}
use Rattle.std.specs.List.{flat_map, range_with_len}
use Rattle.svg_text.specs.Shapes.{line_text, point}
use Rattle.svg_text.proofs.Appending.{goes_on, number_more}
use Rattle.svg_text.specs.Scale.{place}
use Rattle.std.specs.Prelude.{codes}
use Rattle.chart_picture.specs.DatesPicture.{repeat_text}
use Rattle.chart_picture.proofs.board.append_lines.Goals as goal

pub loop-k-preserved : goal.loop-k-preserved
unfolding repeat_text
loop-k-preserved c =
    let f = repeat_text c.args.scale c.args.height c.args.ticks in
    let n = c.args.reactions in
    let k = c.loop-k.k in
    goes_on c.args.out.now.items c.loop-k.out.items c.append_line.new.out.items (f k) (flat_map f (range_with_len k (n - k)))
    (flat_map f (range_with_len (k + 1) (n - (k + 1)))) (flat_map f (range_with_len 0 n))
    (c.in_ok-append_line.ensures ∙ ap (λ (x : ℕ). c.loop-k.out.items ++ line_text (codes "end") (point x 0) c.args.height)
    (c.place-x.ensures.place ∙ ap (λ (d : ℕ). place c.args.scale d) c.repeated.ensures))
    (number_more f k n c.loop-k-test.true) c.loop-k.invariant
