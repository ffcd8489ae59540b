use Rattle.std.proofs.Common.{subst, ◌≡◌}
use Rattle.std.specs.Prelude.{OnOk, codes}
use Rattle.syn_base.specs.Bytes.{Bytes}
use Rattle.svg_text.specs.Shapes.{words_end, words_text}
use Rattle.chart_picture.specs.Bars.{label_words}
use Rattle.svg_text.proofs.Appending.{three}
use Rattle.chart_picture.proofs.bars.append_words.Goals as goal

pub returns : goal.returns
unfolding label_words
returns c =
    subst (λ (l : Bytes). OnOk c.end_text.result (c.end_text.new.out.items ≡ l))
    (three c.args.out.now.items c.begin_text.new.out.items c.append.new.out.items
    (words_text (codes "label") c.args.middle (codes "22")) c.args.label.now words_end
    c.in_ok-begin_text.ensures c.in_ok-append.ensures.text)
    c.end_text.ensures
