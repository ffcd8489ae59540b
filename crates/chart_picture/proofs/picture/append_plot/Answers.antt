use Rattle.std.proofs.Common.{subst, ◌++◌, ◌∙◌, ◌≡◌}
use Rattle.std.specs.Prelude.{OnOk, codes, length}
use Rattle.syn_base.specs.Bytes.{Bytes}
use Rattle.self_timed.specs.Acts.{acts_of}
use Rattle.svg_text.specs.Axis.{axis_text}
use Rattle.chart_picture.specs.Arrows.{arrows_text}
use Rattle.chart_picture.specs.Picture.{lanes_text, plot_text}
use Rattle.svg_text.proofs.Appending.{three}
use Rattle.chart_picture.proofs.picture.append_plot.Goals as goal

pub returns : goal.returns
unfolding plot_text
returns c =
    subst (λ (l : Bytes). OnOk c.append_arrows.result (c.append_arrows.new.out.items ≡ l))
    (three c.args.out.now.items c.append_axis.new.out.items c.append_lanes.new.out.items
    (axis_text (codes "length ") c.args.sheet.now.scale c.height_of_lanes.result)
    (lanes_text c.args.sheet.now.flat.now c.args.sheet.now.archi.now c.args.sheet.now.scale (acts_of c.args.decisions.now))
    (arrows_text c.args.sheet.now.flat.now.vertices (length c.args.sheet.now.archi.now.operators) c.args.sheet.now.scale (acts_of c.args.decisions.now))
    c.in_ok-append_axis.ensures c.in_ok-append_lanes.ensures
    ∙ (λ i. c.args.out.now.items ++
    (axis_text (codes "length ") c.args.sheet.now.scale (c.height_of_lanes.ensures.same i)
    ++ (lanes_text c.args.sheet.now.flat.now c.args.sheet.now.archi.now c.args.sheet.now.scale (acts_of c.args.decisions.now)
    ++ arrows_text c.args.sheet.now.flat.now.vertices (length c.args.sheet.now.archi.now.operators) c.args.sheet.now.scale
    (acts_of c.args.decisions.now)))))
    c.append_arrows.ensures
