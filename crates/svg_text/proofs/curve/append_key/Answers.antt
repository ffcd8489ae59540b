use Rattle.std.proofs.Common.{subst, ◌*◌, ◌≡◌}
use Rattle.std.specs.Prelude.{OnOk, codes}
use Rattle.std.specs.Fmt.{decimal}
use Rattle.syn_base.specs.Bytes.{Bytes}
use Rattle.svg_text.specs.Shapes.{words_end}
use Rattle.svg_text.specs.Plot.{colour, key_text}
use Rattle.svg_text.proofs.Appending.{seven}
use Rattle.svg_text.proofs.curve.append_key.Goals as goal

pub returns : goal.returns
unfolding key_text
returns c =
    subst (λ (l : Bytes). OnOk c.end_text.result (c.end_text.new.out.items ≡ l))
    (seven c.args.out.now.items c.append.new.out.items c.append_count.new.out.items c.append-2.new.out.items c.append_count-2.new.out.items c.append-3.new.out.items c.append_count-3.new.out.items
    (codes "<text class=\"ink") (decimal (colour c.args.place)) (codes "\" x=\"") (decimal (16 * c.args.place)) (codes "\" y=\"134\">") (decimal c.args.place) words_end
    c.in_ok-append.ensures.text c.in_ok-append_count.ensures.text c.in_ok-append-2.ensures.text c.in_ok-append_count-2.ensures.text c.in_ok-append-3.ensures.text c.in_ok-append_count-3.ensures.text)
    c.end_text.ensures
