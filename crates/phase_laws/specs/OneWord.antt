-- Whether a sequence is enabled depends on at most the one word that its next micro-step touches.
use Rattle.std.specs.Prelude.{◌≡◌, ℕ, Option, Some, None, slice_index_or}
use Rattle.executive_program.specs.declared.steps.MicroStep.{MicroStep}
use Rattle.executive_program.specs.declared.steps.MicroStep.TheVariants.{Take, See, Await}
use Rattle.semaphore_core.specs.Job.{JobData}
use Rattle.semaphore_core.specs.Core.{Core, count, next, is_enabled}

-- a semaphore, or the turn of a medium
pub data Word : Type 0 where
  semaphore : ℕ → Word
  turn : ℕ → Word

-- The word has this value in state z; it is 0 if there is no such semaphore or turn.
abbrev pub word_in : Core → Word → ℕ
word_in z (semaphore x) = slice_index_or z.semaphores x 0
word_in z (turn m) = slice_index_or z.turns m 0

-- the word on which it depends whether a micro-step is enabled: a take and a see look at a semaphore, a wait at a turn
abbrev pub looked_at : MicroStep → Option Word
looked_at (Take x) = Some (semaphore x)
looked_at (See x) = Some (semaphore x)
looked_at (Await m i n exact) = Some (turn m)
looked_at _ = None

-- A given micro-step looks at this word; it is none if it looks at none, and if no
-- micro-step is given.
abbrev pub looked_at_by : Option MicroStep → Option Word
looked_at_by None = None
looked_at_by (Some m) = looked_at m

-- if there is a word, it has the same value in both
abbrev pub HaveSameWord : Core → Core → Option Word → Type 0
HaveSameWord z y None = Unit {0}
HaveSameWord z y (Some w) = word_in z w ≡ word_in y w

-- Between two states in which sequence s has made as many micro-steps, and in
-- which the word has the same value that its next micro-step looks at, if any.
abbrev pub EnabledByOneWord : Type 0
EnabledByOneWord = (j : JobData) (z y : Core) (s : ℕ) → count z s ≡ count y s →
    HaveSameWord z y (looked_at_by (next j z s)) → is_enabled j z s ≡ is_enabled j y s
