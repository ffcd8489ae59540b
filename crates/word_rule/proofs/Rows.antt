-- Two operators with a bus: the words of a table, computed on a worked program over three reactions.
use Rattle.std.proofs.Common.{◌≡◌, [], ◌∷◌, Some, None, refl, true, false, pos, negsuc}
use Rattle.executive_program.specs.declared.steps.Place.TheVariants.{Buffer, Wire}
use Rattle.executive_program.specs.declared.steps.MicroStep.TheVariants.{Take, Await}
use Rattle.phase_laws.specs.Core.{opening, step}
use Rattle.phase_laws.specs.Told.{told}
use Rattle.phase_laws.proofs.RowFive.{single, double, job}
use Rattle.word_rule.specs.Words.{word_of, table_of, table_len, element_lens, turn_word, element_word, word_at}
use Rattle.word_rule.specs.Views.{all_from, count_in, raised}
use Rattle.word_rule.specs.Given.{enables}

-- 10 words and the spare one; with two places 12 and the spare one
lengths : (table_len (job single) ≡ 11) × (element_lens (job single) ≡ 1 ∷ 1 ∷ 1 ∷ 1 ∷ 1 ∷ []) × (table_len (job double) ≡ 13) × (element_lens (job double) ≡ 2 ∷ 1 ∷ 2 ∷ 1 ∷ 1 ∷ [])
lengths = (refl, refl, refl, refl)

-- the words at the end: each empty semaphore 1 and each full one 0, the turn 6, and the last value of each element
at_end : table_of (told (job single) (18 ∷ 19 ∷ 16 ∷ 18 ∷ [])) ≡ 0 ∷ 1 ∷ 0 ∷ 1 ∷ 0 ∷ 6 ∷ 0 ∷ 1 ∷ 0 ∷ 1 ∷ 0 ∷ []
at_end = refl

at_opening : table_of (opening (job single)) ≡ 0 ∷ 0 ∷ 0 ∷ 0 ∷ 0 ∷ 0 ∷ 0 ∷ 0 ∷ 0 ∷ 0 ∷ 0 ∷ []
at_opening = refl

-- the semaphores stand from word 1 on, the turn at word 5, buffer b at word 6 + b, and the wire at word 10; the second place of a buffer stands after the first
places : (word_at (job single) 0 (Take 2) ≡ 3) × (turn_word (job single) 0 ≡ 5) × (element_word (job single) (Buffer 3 0) 1 ≡ 9) × (element_word (job single) (Wire 0 0) 1 ≡ 10)
    × (element_word (job double) (Buffer 0 0) 1 ≡ 7) × (element_word (job double) (Buffer 2 0) 1 ≡ 10)
places = (refl, refl, refl, refl, refl, refl)

-- -1 is the last value of a word
twos : (word_of (negsuc 0) ≡ 18446744073709551615) × (word_of (pos 6) ≡ 6)
twos = (refl, refl)

-- sequence 1 signals its empty semaphore, in what its counts tell and on the table
signals : table_of (step (job single) (opening (job single)) 1) ≡ 0 ∷ 1 ∷ 0 ∷ 0 ∷ 0 ∷ 0 ∷ 0 ∷ 0 ∷ 0 ∷ 0 ∷ 0 ∷ []
signals = refl

-- the first seat drives all four; group 1 of two gets sequences 1 and 3
drives : (count_in (all_from 0 4) 3 ≡ Some 0) × (count_in (all_from 0 4) 4 ≡ None) × (count_in (raised (all_from 0 4) 2) 2 ≡ Some 1)
drives = (refl, refl, refl)

-- a send waits for its own turn, and no other
waits : (enables 1 (Await 0 0 2 true) 2 ≡ true) × (enables 1 (Await 0 0 2 true) 3 ≡ false) × (enables 1 (Await 0 2 2 false) 5 ≡ true) × (enables 0 (Take 0) 2 ≡ false)
waits = (refl, refl, refl, refl)
