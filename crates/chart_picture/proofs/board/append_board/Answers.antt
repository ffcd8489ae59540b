use Rattle.std.proofs.Common.{subst, ◌++◌, ◌∙◌, ◌≡◌}
use Rattle.std.specs.Prelude.{OnOk, codes}
use Rattle.syn_base.specs.Bytes.{Bytes}
use Rattle.svg_text.specs.Axis.{axis_text}
use Rattle.chart_picture.specs.DatesPicture.{board_text, lanes_text, repeats_text}
use Rattle.svg_text.proofs.Appending.{three}
use Rattle.chart_picture.proofs.board.append_board.Goals as goal

pub returns : goal.returns
unfolding board_text
returns c =
    subst (λ (l : Bytes). OnOk c.append_repeats.result (c.append_repeats.new.out.items ≡ l))
    (three c.args.out.now.items c.append_lanes.new.out.items c.append_axis.new.out.items
    (lanes_text c.args.archi.now c.args.scale.width) (axis_text (codes "chart repeated: ") c.args.scale c.height_of_lanes-height.result)
    (repeats_text c.args.scale c.height_of_lanes-height.result c.args.ticks c.args.reactions)
    c.in_ok-append_lanes.ensures c.in_ok-append_axis.ensures
    ∙ (λ i. c.args.out.now.items ++
    (lanes_text c.args.archi.now c.args.scale.width
    ++ (axis_text (codes "chart repeated: ") c.args.scale (c.height_of_lanes-height.ensures.same i)
    ++ repeats_text c.args.scale (c.height_of_lanes-height.ensures.same i) c.args.ticks c.args.reactions))))
    c.append_repeats.ensures
