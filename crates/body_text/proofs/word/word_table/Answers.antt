use Rattle.std.proofs.Common.{◌≡◌, sym, ap, length, ◌∙◌, rules}
use Rattle.body_text.specs.Words.{words}
use Rattle.body_text.proofs.Words.{new_word, word_more, words_so_far}
use Rattle.body_text.proofs.word.word_table.Goals as goal

pub add-requires : goal.add-requires
add-requires c =
    let i = c.loop-word.word-index in
    let there = c.loop-word-test.true in
    let long : length c.loop-word.table ≡ i = ap length c.loop-word.invariant ∙ words_so_far words i there in
    (search rules, (search (rules, long, there), rw (c.text.ensures, c.loop-word.invariant) (new_word i _ there)))

pub loop-word-preserved : goal.loop-word-preserved
loop-word-preserved c = rw (c.add.ensures, c.text.ensures, c.loop-word.invariant) (sym (word_more words c.loop-word.word-index _ c.loop-word-test.true))
