use Rattle.std.proofs.Common.{◌≡◌, map, take}
use Rattle.body_text.specs.Words.{text_of, words}
use Rattle.body_text.proofs.word.word_table.Given as goal

abbrev pub invariant-loop-word : goal.invariant-loop-word
invariant-loop-word l = l.table ≡ map text_of (take l.word-index words)
