use Rattle.std.proofs.Common.{◌≡◌, subst}
use Rattle.std.specs.Prelude.{OnOk, codes}
use Rattle.syn_base.specs.Bytes.{Bytes}
use Rattle.svg_text.specs.Shapes.{root_text, sides_text, view_text}
use Rattle.svg_text.proofs.Appending.{three}
use Rattle.svg_text.proofs.shapes.append_root.Goals as goal

pub returns : goal.returns
unfolding root_text
returns c =
    subst (λ (l : Bytes). OnOk c.append_view.result (c.append_view.new.out.items ≡ l))
    (three c.args.out.now.items c.append.new.out.items c.append_sides.new.out.items (codes "<svg xmlns=\"http://www.w3.org/2000/svg\"")
    (sides_text c.args.size) (view_text c.args.size) c.in_ok-append.ensures.text c.in_ok-append_sides.ensures)
    c.append_view.ensures
