use Rattle.std.proofs.Common.{◌≡◌, subst}
use Rattle.std.specs.Prelude.{OnOk, codes}
use Rattle.syn_base.specs.Bytes.{Bytes}
use Rattle.svg_text.specs.Shapes.{move_text, point_text}
use Rattle.svg_text.proofs.Appending.{three}
use Rattle.svg_text.proofs.shapes.append_move.Goals as goal

pub returns : goal.returns
unfolding move_text
returns c =
    subst (λ (l : Bytes). OnOk c.append-2.result (c.append-2.new.out.items ≡ l))
    (three c.args.out.now.items c.append.new.out.items c.append_point.new.out.items (codes "\"translate(") (point_text c.args.origin)
    (codes ")\"") c.in_ok-append.ensures.text c.in_ok-append_point.ensures)
    c.append-2.ensures.text
