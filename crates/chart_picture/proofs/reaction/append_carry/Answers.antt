use Rattle.std.proofs.Common.{◌≡◌, ◌+◌, ◌*◌, ◌++◌, length, subst, ap, ◌∙◌, append_assoc}
use Rattle.std.specs.Prelude.{OnOk}
use Rattle.syn_base.specs.Bytes.{Bytes}
use Rattle.self_timed.specs.Acts.{carry}
use Rattle.svg_text.specs.Scale.{place}
use Rattle.svg_text.specs.Shapes.{bar_end, tile_text}
use Rattle.svg_text.proofs.Appending.{three}
use Rattle.chart_picture.specs.Bars.{title_of}
use Rattle.chart_picture.specs.DatesPicture.{dated_text, number_text}
use Rattle.chart_picture.proofs.reaction.append_carry.Goals as goal

pub returns : goal.returns
unfolding dated_text
returns c =
    let sheet = c.args.reaction.now.sheet.now in
    let tile = tile_text (place sheet.scale c.args.span.start) (place sheet.scale c.args.span.end) (36 * (c.operators_in.result + c.args.transfer.medium) + 6) in
    let number = number_text c.args.reaction.now.number in
    let title = title_of sheet.flat.now sheet.archi.now c.args.span.start c.args.span.end (carry c.args.transfer) in
    subst (λ (l : Bytes). OnOk c.end_bar.result (c.end_bar.new.out.items ≡ l))
    (three c.args.out.now.items c.begin_bar.new.out.items c.append_title_of_transfer.new.out.items (tile ++ number) title bar_end c.in_ok-begin_bar.ensures c.in_ok-append_title_of_transfer.ensures
    ∙ ap (λ (l : Bytes). c.args.out.now.items ++ l) (append_assoc tile number (title ++ bar_end))
    ∙ (λ i. c.args.out.now.items ++
    (tile_text (place sheet.scale c.args.span.start) (place sheet.scale c.args.span.end)
    (36 * (c.operators_in.ensures.same i + c.args.transfer.medium) + 6) ++ (number ++ (title ++ bar_end)))))
    c.end_bar.ensures
