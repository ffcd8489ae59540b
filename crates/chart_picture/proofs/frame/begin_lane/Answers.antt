use Rattle.std.proofs.Common.{subst, ◌*◌, ◌≡◌}
use Rattle.std.specs.Prelude.{OnOk}
use Rattle.syn_base.specs.Bytes.{Bytes}
use Rattle.svg_text.specs.Shapes.{group_text, point}
use Rattle.chart_picture.specs.Frame.{ground_text, lane_text, name_text}
use Rattle.svg_text.proofs.Appending.{three}
use Rattle.chart_picture.proofs.frame.begin_lane.Goals as goal

pub returns : goal.returns
unfolding lane_text
returns c =
    subst (λ (l : Bytes). OnOk c.append_name.result (c.append_name.new.out.items ≡ l))
    (three c.args.out.now.items c.begin_group.new.out.items c.append_ground.new.out.items
    (group_text c.args.lane.now.word.now c.args.lane.now.name.now (point 0 (36 * c.args.lane.now.number))) (ground_text c.args.lane.now.class.now c.args.width) (name_text c.args.lane.now.name.now)
    c.in_ok-begin_group.ensures c.in_ok-append_ground.ensures)
    c.append_name.ensures
