use Rattle.std.proofs.Common.{subst, ◌≡◌}
use Rattle.std.specs.Prelude.{OnOk, codes}
use Rattle.std.specs.Fmt.{decimal}
use Rattle.syn_base.specs.Bytes.{Bytes}
use Rattle.svg_text.specs.Shapes.{bar_end}
use Rattle.svg_text.specs.Plot.{end_text, title_text}
use Rattle.svg_text.proofs.Appending.{five}
use Rattle.svg_text.proofs.curve.append_end.Goals as goal

pub returns : goal.returns
unfolding end_text
returns c =
    subst (λ (l : Bytes). OnOk c.end_bar.result (c.end_bar.new.out.items ≡ l))
    (five c.args.out.now.items c.append.new.out.items c.append_count.new.out.items c.append-2.new.out.items c.append_title.new.out.items
    (codes "H") (decimal c.args.width) (codes "\"><title>") (title_text c.args.name.now c.args.place) bar_end
    c.in_ok-append.ensures.text c.in_ok-append_count.ensures.text c.in_ok-append-2.ensures.text c.in_ok-append_title.ensures)
    c.end_bar.ensures
