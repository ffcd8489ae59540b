use Rattle.std.proofs.Common.{subst, ◌≡◌}
use Rattle.std.specs.Prelude.{OnOk, codes}
use Rattle.std.specs.Fmt.{decimal}
use Rattle.syn_base.specs.Bytes.{Bytes}
use Rattle.svg_text.specs.Shapes.{words_end, words_text}
use Rattle.chart_picture.specs.declared.board.TheConstants.{NOTE}
use Rattle.chart_picture.specs.DatesPicture.{note_words}
use Rattle.svg_text.proofs.Appending.{four}
use Rattle.chart_picture.proofs.board.append_words.Goals as goal

pub returns : goal.returns
unfolding note_words
returns c =
    subst (λ (l : Bytes). OnOk c.end_text.result (c.end_text.new.out.items ≡ l))
    (four c.args.out.now.items c.begin_text.new.out.items c.append.new.out.items c.append_count.new.out.items
    (words_text (codes "note") 0 (codes "10")) NOTE.now (decimal c.args.ticks) words_end
    c.in_ok-begin_text.ensures c.in_ok-append.ensures.text c.in_ok-append_count.ensures.text)
    c.end_text.ensures
