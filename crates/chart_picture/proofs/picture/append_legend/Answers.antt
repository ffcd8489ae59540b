use Rattle.std.proofs.Common.{[], subst, ◌++◌, ◌+◌, ◌∙◌, ◌≡◌}
use Rattle.std.specs.Prelude.{OnOk, codes}
use Rattle.syn_base.specs.Bytes.{Bytes}
use Rattle.svg_text.specs.declared.style.TheConstants.{END_GROUP, LEGEND}
use Rattle.svg_text.specs.Shapes.{group_text, point}
use Rattle.chart_picture.specs.Picture.{legend_text}
use Rattle.svg_text.proofs.Appending.{three}
use Rattle.chart_picture.proofs.picture.append_legend.Goals as goal

pub returns : goal.returns
unfolding legend_text
returns c =
    subst (λ (l : Bytes). OnOk c.append-2.result (c.append-2.new.out.items ≡ l))
    (three c.args.out.now.items c.begin_group.new.out.items c.append.new.out.items
    (group_text (codes "legend") [] (point 0 (c.height_of_lanes.result + 14))) LEGEND.now END_GROUP.now
    c.in_ok-begin_group.ensures c.in_ok-append.ensures.text
    ∙ (λ i. c.args.out.now.items ++ (group_text (codes "legend") [] (point 0 (c.height_of_lanes.ensures.same i + 14)) ++ (LEGEND.now ++ END_GROUP.now))))
    c.append-2.ensures.text
