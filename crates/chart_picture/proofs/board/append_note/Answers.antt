use Rattle.std.proofs.Common.{[], subst, ◌++◌, ◌+◌, ◌∙◌, ◌≡◌}
use Rattle.std.specs.Prelude.{OnOk, codes}
use Rattle.syn_base.specs.Bytes.{Bytes}
use Rattle.svg_text.specs.declared.style.TheConstants.{END_GROUP}
use Rattle.svg_text.specs.Shapes.{group_text, point}
use Rattle.chart_picture.specs.DatesPicture.{note_text, note_words}
use Rattle.svg_text.proofs.Appending.{three}
use Rattle.chart_picture.proofs.board.append_note.Goals as goal

pub returns : goal.returns
unfolding note_text
returns c =
    subst (λ (l : Bytes). OnOk c.append.result (c.append.new.out.items ≡ l))
    (three c.args.out.now.items c.begin_group.new.out.items c.append_words.new.out.items
    (group_text (codes "note") [] (point 0 (c.height_of_lanes.result + 14))) (note_words c.args.ticks) END_GROUP.now
    c.in_ok-begin_group.ensures c.in_ok-append_words.ensures
    ∙ (λ i. c.args.out.now.items ++ (group_text (codes "note") [] (point 0 (c.height_of_lanes.ensures.same i + 14)) ++ (note_words c.args.ticks ++ END_GROUP.now))))
    c.append.ensures.text
