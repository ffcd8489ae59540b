use Rattle.std.proofs.Common.{subst, ◌++◌, ◌∙◌, ◌≡◌}
use Rattle.std.specs.Prelude.{OnOk, codes}
use Rattle.syn_base.specs.Bytes.{Bytes}
use Rattle.svg_text.specs.Shapes.{group_text, point}
use Rattle.svg_text.specs.Plot.{ground_text, limits_text, name_text, panel_text}
use Rattle.svg_text.proofs.Appending.{four}
use Rattle.svg_text.proofs.plot.append_panel.Goals as goal

pub returns : goal.returns
unfolding panel_text
returns c =
    subst (λ (l : Bytes). OnOk c.append_limits.result (c.append_limits.new.out.items ≡ l))
    (four c.args.out.now.items c.begin_group.new.out.items c.append_ground.new.out.items c.append_name.new.out.items
    (group_text (codes "actuator-") c.args.name.now (point 0 c.top_of.result)) (ground_text c.args.width) (name_text c.args.name.now) (limits_text c.args.range)
    c.in_ok-begin_group.ensures c.in_ok-append_ground.ensures c.in_ok-append_name.ensures
    ∙ (λ i. c.args.out.now.items ++
    (group_text (codes "actuator-") c.args.name.now (point 0 (c.top_of.ensures.top i))
    ++ (ground_text c.args.width ++ (name_text c.args.name.now ++ limits_text c.args.range)))))
    c.append_limits.ensures
