use Rattle.std.proofs.Common.{[], subst, ◌≡◌}
use Rattle.std.specs.Prelude.{OnOk, codes, length}
use Rattle.syn_base.specs.Bytes.{Bytes}
use Rattle.std.specs.List.{flat_map}
use Rattle.self_timed.specs.Acts.{acts_of}
use Rattle.svg_text.specs.declared.style.TheConstants.{END_GROUP}
use Rattle.svg_text.specs.Shapes.{group_text, point}
use Rattle.chart_picture.specs.Arrows.{arrows_text, links_from}
use Rattle.svg_text.proofs.Appending.{three}
use Rattle.chart_picture.proofs.arrows.append_arrows.Goals as goal

pub returns : goal.returns
unfolding arrows_text
returns c =
    subst (λ (l : Bytes). OnOk c.append.result (c.append.new.out.items ≡ l))
    (three c.args.out.now.items c.begin_group.new.out.items c.append_links.new.out.items
    (group_text (codes "arrows") [] (point 0 0))
    (flat_map (links_from c.args.sheet.now.flat.now.vertices (length c.args.sheet.now.archi.now.operators) c.args.sheet.now.scale
    (acts_of c.args.decisions.now)) (acts_of c.args.decisions.now)) END_GROUP.now
    c.in_ok-begin_group.ensures c.in_ok-append_links.ensures)
    c.append.ensures.text
