-- A word is found where it stands in the table.
use Rattle.std.proofs.Common.{◌∙◌, sym}
use Rattle.body_text.specs.Words.{words, form_of}
use Rattle.body_text.proofs.Words.{found_at, not_found}
use Rattle.body_text.proofs.word.find_word.Goals as goal

pub returns-in-Some : goal.returns-in-Some
unfolding form_of
returns-in-Some c = c.word_at.ensures ∙ found_at words c.args.name.now c.word_table.result c.in-Some.place c.word_table.ensures c.in-Some.ensures

pub returns-in-None : goal.returns-in-None
unfolding form_of
returns-in-None c = sym (not_found words c.args.name.now c.word_table.result c.word_table.ensures c.in-None.ensures)
