use Rattle.std.proofs.Common.{subst, ◌≡◌}
use Rattle.std.specs.Prelude.{OnOk, codes}
use Rattle.syn_base.specs.Bytes.{Bytes}
use Rattle.self_timed.specs.Acts.{acts_of, is_on}
use Rattle.svg_text.specs.declared.style.TheConstants.{END_GROUP}
use Rattle.chart_picture.specs.Bars.{bars_text}
use Rattle.chart_picture.specs.Frame.{lane_text}
use Rattle.chart_picture.specs.Picture.{lane_part}
use Rattle.svg_text.proofs.Appending.{three}
use Rattle.chart_picture.proofs.picture.append_operator.Goals as goal

pub returns : goal.returns
unfolding lane_part
returns c =
    subst (λ (l : Bytes). OnOk c.append.result (c.append.new.out.items ≡ l))
    (three c.args.out.now.items c.begin_lane.new.out.items c.append_on.new.out.items
    (lane_text c.args.sheet.now.scale.width (codes "lane") (codes "operator-") c.args.name.now c.args.operator)
    (bars_text c.args.sheet.now.flat.now c.args.sheet.now.archi.now c.args.sheet.now.scale (is_on c.args.operator)
    (acts_of c.args.decisions.now)) END_GROUP.now
    c.in_ok-begin_lane.ensures c.in_ok-append_on.ensures)
    c.append.ensures.text
