use Rattle.std.proofs.Common.{[], subst, ◌≡◌}
use Rattle.std.specs.Prelude.{OnOk, codes}
use Rattle.syn_base.specs.Bytes.{Bytes}
use Rattle.std.specs.List.{flat_map, range_with_len}
use Rattle.svg_text.specs.declared.style.TheConstants.{END_GROUP}
use Rattle.svg_text.specs.Shapes.{group_text, point}
use Rattle.chart_picture.specs.DatesPicture.{repeat_text, repeats_text}
use Rattle.svg_text.proofs.Appending.{three}
use Rattle.chart_picture.proofs.board.append_repeats.Goals as goal

pub returns : goal.returns
unfolding repeats_text
returns c =
    subst (λ (l : Bytes). OnOk c.append.result (c.append.new.out.items ≡ l))
    (three c.args.out.now.items c.begin_group.new.out.items c.append_lines.new.out.items
    (group_text (codes "repetitions") [] (point 0 0)) (flat_map (repeat_text c.args.scale c.args.height c.args.ticks) (range_with_len 0 c.args.reactions)) END_GROUP.now
    c.in_ok-begin_group.ensures c.in_ok-append_lines.ensures)
    c.append.ensures.text
