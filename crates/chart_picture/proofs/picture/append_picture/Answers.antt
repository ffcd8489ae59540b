use Rattle.std.proofs.Common.{subst, ◌++◌, ◌≡◌}
use Rattle.std.specs.Prelude.{OnOk}
use Rattle.syn_base.specs.Bytes.{Bytes}
use Rattle.self_timed.specs.Acts.{acts_of}
use Rattle.svg_text.specs.declared.style.TheConstants.{END, END_GROUP}
use Rattle.chart_picture.specs.Picture.{begin_text, legend_text, plot_text, whole_text}
use Rattle.svg_text.proofs.Appending.{four}
use Rattle.chart_picture.proofs.picture.append_picture.Goals as goal

pub returns : goal.returns
unfolding whole_text
returns c =
    subst (λ (l : Bytes). OnOk c.end_picture.result (c.end_picture.new.out.items ≡ l))
    (four c.args.out.now.items c.begin_picture.new.out.items c.append_plot.new.out.items c.append_legend.new.out.items
    (begin_text c.args.sheet.now.archi.now c.args.sheet.now.scale)
    (plot_text c.args.sheet.now.flat.now c.args.sheet.now.archi.now c.args.sheet.now.scale (acts_of c.args.decisions.now))
    (legend_text c.args.sheet.now.archi.now) (END_GROUP.now ++ END.now)
    c.in_ok-begin_picture.ensures c.in_ok-append_plot.ensures c.in_ok-append_legend.ensures)
    c.end_picture.ensures
