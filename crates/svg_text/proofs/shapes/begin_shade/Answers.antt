use Rattle.std.proofs.Common.{◌≡◌, ◌+◌, ◌%◌, subst}
use Rattle.std.specs.Fmt.{decimal}
use Rattle.std.specs.Prelude.{OnOk, codes}
use Rattle.syn_base.specs.Bytes.{Bytes}
use Rattle.svg_text.specs.Shapes.{shade_text}
use Rattle.svg_text.proofs.Appending.{six}
use Rattle.svg_text.proofs.shapes.begin_shade.Goals as goal

pub returns : goal.returns
unfolding shade_text
returns c =
    subst (λ (l : Bytes). OnOk c.append-4.result (c.append-4.new.out.items ≡ l))
    (six c.args.out.now.items c.append.new.out.items c.append-2.new.out.items c.append_count.new.out.items c.append-3.new.out.items c.append_count-2.new.out.items
    (codes "<g id=\"") c.args.word.now (decimal c.args.number) (codes "\" class=\"shade") (decimal (c.args.number % 8 + 1)) (codes "\">\n")
    c.in_ok-append.ensures.text c.in_ok-append-2.ensures.text c.in_ok-append_count.ensures.text c.in_ok-append-3.ensures.text c.in_ok-append_count-2.ensures.text)
    c.append-4.ensures.text
