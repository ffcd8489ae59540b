use Rattle.std.proofs.Common.{◌≡◌, subst}
use Rattle.std.specs.Prelude.{OnOk, codes}
use Rattle.syn_base.specs.Bytes.{Bytes}
use Rattle.svg_text.specs.Shapes.{point_text, view_text}
use Rattle.svg_text.proofs.Appending.{three}
use Rattle.svg_text.proofs.shapes.append_view.Goals as goal

pub returns : goal.returns
unfolding view_text
returns c =
    subst (λ (l : Bytes). OnOk c.append-2.result (c.append-2.new.out.items ≡ l))
    (three c.args.out.now.items c.append.new.out.items c.append_point.new.out.items (codes " viewBox=\"0 0 ") (point_text c.args.size)
    (codes "\">\n") c.in_ok-append.ensures.text c.in_ok-append_point.ensures)
    c.append-2.ensures.text
