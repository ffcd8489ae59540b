-- The words of a table: a state of the core as words, and the word that a micro-step touches.
use Rattle.std.specs.Prelude.{◌≡◌, ℕ, suc, ◌+◌, ◌*◌, List, ◌∷◌, ◌++◌, map, take, length, sum, ℤ}
use Rattle.std.specs.Int.{w64, cast_unsigned, cast_signed}
use Rattle.executive_program.specs.Level.{all_joined}
use Rattle.executive_program.specs.declared.steps.Place.{Place}
use Rattle.executive_program.specs.declared.steps.MicroStep.{MicroStep}
use Rattle.executive_program.specs.declared.steps.MicroStep.TheVariants.{
  Take,
  See,
  Lower,
  Signal,
  Await,
  Advance,
  Load,
  Store,
}
use Rattle.phase_laws.specs.Job.{JobData}
use Rattle.phase_laws.specs.Core.{Core, opening, home_of, slot_of}
use Rattle.phase_laws.specs.Elements.{element_in}

-- an element as a word: its two's complement
abbrev pub word_of : ℤ → ℕ
word_of x = cast_unsigned w64 x

-- the word gives the element back
abbrev pub IsExact : ℤ → Type 0
IsExact x = cast_signed w64 (word_of x) ≡ x

-- Every element of these lists is the one that its word gives back, so that it fits into a word.
abbrev pub AreExact : List (List ℤ) → Type 0
AreExact elements = (h q : ℕ) → IsExact (element_in elements h q)

-- The empty and the full semaphore of each pair, the turn of each medium, the
-- elements of the buffers by buffer, place and number, and those of the wires.
abbrev pub words_of : Core → List ℕ
words_of z = z.semaphores ++ (z.turns ++ map word_of (all_joined z.elements))

-- a table has one word more: word 0 is spare, and always 0
abbrev pub table_of : Core → List ℕ
table_of z = 0 ∷ words_of z

module _ (j : JobData) where
  -- how many elements each buffer has in all its places, and then each wire
  abbrev pub element_lens : List ℕ
  element_lens = map length (opening j).elements

  -- The turn of medium m is the word of this number in the table.
  abbrev pub turn_word : ℕ → ℕ
  turn_word m = suc (2 * length j.program.pairs + m)

  -- the word at which the elements of a buffer or wire begin
  abbrev pub elements_start : ℕ → ℕ
  elements_start h = suc (2 * length j.program.pairs + (j.media + sum (take h element_lens)))

  -- The element in place x is the word of this number in the table, in reaction k.
  abbrev pub element_word : Place → ℕ → ℕ
  element_word x k = elements_start (home_of j.program x) + slot_of j.program x k

  -- the one word that a micro-step of reaction k touches
  abbrev pub word_at : ℕ → MicroStep → ℕ
  word_at k (Take x) = suc x
  word_at k (See x) = suc x
  word_at k (Lower x) = suc x
  word_at k (Signal x) = suc x
  word_at k (Await m i n exact) = turn_word m
  word_at k (Advance m) = turn_word m
  word_at k (Load x then) = element_word x k
  word_at k (Store x what) = element_word x k

  -- how many words a table of the job has
  abbrev pub table_len : ℕ
  table_len = suc (2 * length j.program.pairs + (j.media + sum element_lens))
