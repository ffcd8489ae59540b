-- What a try of a sequence answers.
use Rattle.std.specs.Prelude.{
  ◌≡◌,
  ℕ,
  ◌+◌,
  ◌%◌,
  ◌<◌,
  Bool,
  true,
  false,
  cond,
  length,
  Option,
  Some,
  None,
  slice_index_or,
}
use Rattle.executive_program.specs.Sites.{step_at, reaction_at}
use Rattle.executive_program.specs.declared.steps.MicroStep.{MicroStep}
use Rattle.executive_program.specs.declared.steps.MicroStep.TheVariants.{Take, See, Await}
use Rattle.executive_program.specs.Steps.{steps}
use Rattle.word_rule.specs.Job.{JobData}
use Rattle.word_rule.specs.Core.{Core, full, next, reaction, enabled_in, AreReached}
use Rattle.word_rule.specs.Laws.{one_more}
use Rattle.word_rule.specs.Told.{told}
use Rattle.word_rule.specs.Words.{word_at, table_of}
use Rattle.word_rule.specs.Given.{enables}
use Rattle.word_table.specs.declared.answer.MicroAnswer.{MicroAnswer}
use Rattle.word_table.specs.declared.answer.MicroAnswer.TheVariants.{Stepped, NotYet, Finished}
use Rattle.word_table.specs.Driver.{Look, DriverData, InSome}

-- a look at the word of a take, a see or a wait is recorded
abbrev pub is_recorded : MicroStep → Bool
is_recorded (Take x) = true
is_recorded (See x) = true
is_recorded (Await m i halves exact) = true
is_recorded _ = false

-- one look more: at this word this was found
abbrev pub next_look : Look → ℕ → ℕ → Look
next_look look word found = record { number = look.number + 1; word = word; found = found }

-- Of sequence s, of which the driver has made `count` micro-steps, m is the next one, in reaction r.
pub record HasNext (d : DriverData) (s r : ℕ) (m : MicroStep) : Type 0 where
  pub more : slice_index_or d.counts s 0 < full d.fabric.job s
  pub next : step_at (steps d.fabric.job.program s) (slice_index_or d.counts s 0) ≡ Some m
  pub in_reaction : reaction_at (steps d.fabric.job.program s) (slice_index_or d.counts s 0) ≡ r

-- The micro-step was made: the count of s rose by one, and no other. It was enabled in what some reached counts tell
-- that agree with the driver's; where it looks at its word, that look is recorded, and what was found enabled it.
pub record Steps (old new : DriverData) (s r : ℕ) (m : MicroStep) : Type 0 where
  pub enabled : InSome old (λ z. enabled_in z r m ≡ true)
  pub counts : new.counts ≡ one_more old.fabric.job old.counts s
  pub found : ℕ
  pub on : enables r m found ≡ true
  pub look : new.look ≡ cond (is_recorded m) (next_look old.look (word_at old.fabric.job r m) found) old.look

-- It was not made: one look more is recorded, at the word that it needs, and what
-- was found there does not enable it. All else is as it was. What was found stood
-- there in what some reached counts tell that agree with the driver's.
pub record Misses (old new : DriverData) (r : ℕ) (m : MicroStep) : Type 0 where
  pub found : ℕ
  pub off : enables r m found ≡ false
  pub stood : InSome old (λ z. (found ≡ slice_index_or (table_of z) (word_at old.fabric.job r m) 0) ×
      (enabled_in z r m ≡ false))
  pub driver : new ≡ record old { look = next_look old.look (word_at old.fabric.job r m) found }

-- Finished exactly at the full count, since the two other answers come below it.
abbrev pub Answers : DriverData → DriverData → ℕ → MicroAnswer → Type 0
Answers old new s Finished = (slice_index_or old.counts s 0 ≡ full old.fabric.job s) × (new ≡ old)
Answers old new s Stepped = (r : ℕ) × (m : MicroStep) × HasNext old s r m × Steps old new s r m
Answers old new s NotYet = (r : ℕ) × (m : MicroStep) × HasNext old s r m × Misses old new r m

-- what the core answers in a state: whether s has a next micro-step, and whether that is enabled
abbrev pub answer_by : JobData → Core → ℕ → Option MicroStep → MicroAnswer
answer_by j z s None = Finished
answer_by j z s (Some m) = cond (enabled_in z (reaction j z s) m) Stepped NotYet

-- A try of sequence s in state z of the core is Finished if it has no next micro-step,
-- Stepped if that is enabled, and otherwise NotYet.
abbrev pub answer_in : JobData → Core → ℕ → MicroAnswer
answer_in j z s = answer_by j z s (next j z s)

-- the driver drives every sequence, in however many groups sequences are driven
abbrev pub DrivesEvery : DriverData → Type 0
DrivesEvery d = (s : ℕ) → s < length d.fabric.job.program.seqs → s % d.fabric.groups ≡ d.group

-- A driver that drives every sequence: its counts are reached, and the answer is the core's in what they tell.
pub record AnswersAlone (old new : DriverData) (s : ℕ) (answer : MicroAnswer) : Type 0 where
  pub was_reached : AreReached old.fabric.job old.counts
  pub is_reached : AreReached old.fabric.job new.counts
  pub is : answer ≡ answer_in old.fabric.job (told old.fabric.job old.counts) s
