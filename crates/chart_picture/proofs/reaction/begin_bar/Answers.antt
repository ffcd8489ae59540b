use Rattle.std.proofs.Common.{subst, ◌*◌, ◌++◌, ◌+◌, ◌∙◌, ◌≡◌}
use Rattle.std.specs.Prelude.{OnOk, codes}
use Rattle.std.specs.Fmt.{decimal}
use Rattle.syn_base.specs.Bytes.{Bytes}
use Rattle.svg_text.specs.Scale.{place}
use Rattle.svg_text.specs.Shapes.{tile_text}
use Rattle.chart_picture.specs.DatesPicture.{number_text}
use Rattle.svg_text.proofs.Appending.{four}
use Rattle.chart_picture.proofs.reaction.begin_bar.Goals as goal

pub returns : goal.returns
unfolding number_text
returns c =
    subst (λ (l : Bytes). OnOk c.append-2.result (c.append-2.new.out.items ≡ l))
    (four c.args.out.now.items c.begin_tile.new.out.items c.append.new.out.items c.append_count.new.out.items
    (tile_text c.place.result c.place-2.result (36 * c.args.lane + 6)) (codes "reaction ") (decimal c.args.reaction.now.number) (codes ", ")
    c.in_ok-begin_tile.ensures c.in_ok-append.ensures.text c.in_ok-append_count.ensures.text
    ∙ (λ i. c.args.out.now.items ++
    (tile_text (c.place.ensures.place i) (c.place-2.ensures.place i) (36 * c.args.lane + 6)
    ++ (codes "reaction " ++ (decimal c.args.reaction.now.number ++ codes ", ")))))
    c.append-2.ensures.text
