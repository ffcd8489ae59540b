use Rattle.std.proofs.Common.{subst, ◌≡◌}
use Rattle.std.specs.Prelude.{OnOk}
use Rattle.syn_base.specs.Bytes.{Bytes}
use Rattle.svg_text.specs.Plot.{curve_text, element_text, key_text}
use Rattle.svg_text.proofs.Appending.{two}
use Rattle.svg_text.proofs.curve.append_element.Goals as goal

pub returns : goal.returns
unfolding element_text
returns c =
    subst (λ (l : Bytes). OnOk c.append_curve.result (c.append_curve.new.out.items ≡ l))
    (two c.args.out.now.items c.append_key.new.out.items
    (key_text c.args.place) (curve_text c.args.panel.now.scale c.args.panel.now.range c.args.panel.now.name.now c.args.panel.now.number c.args.place c.args.panel.now.rows.now.reactions)
    c.in_ok-append_key.ensures)
    c.append_curve.ensures
