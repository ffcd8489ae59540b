-- What jobs that are run to their ends leave of what is driven.
use Rattle.std.specs.Prelude.{◌≡◌, ℕ, ◌+◌, ◌≤◌, List, [], ◌∷◌, ◌++◌, min, sum}
use Rattle.command_plan.specs.Stage.{after_jobs}
use Rattle.word_rule.specs.Job.{JobData}
use Rattle.word_rule.specs.Told.{told}
use Rattle.word_rule.specs.Ended.{full_counts}
use Rattle.word_rule.specs.Driven.{Driven, last_number, driven_by}
use Rattle.word_rule.specs.Words.{words_of}

-- their micro-steps
abbrev pub steps_of_all : List JobData → ℕ
steps_of_all [] = 0
steps_of_all (j ∷ js) = sum (full_counts j) + steps_of_all js

-- The number rises by their micro-steps, up to its last value.
abbrev pub NumbersRise : Type 0
NumbersRise =
    (jobs : List JobData) (d : Driven) → d.number ≤ last_number →
    (after_jobs driven_by jobs d).number ≡ min (d.number + steps_of_all jobs) last_number

-- The counts and words are those of the last of them.
abbrev pub LastIsKept : Type 0
LastIsKept = (jobs : List JobData) (j : JobData) (d : Driven)
    → let new = after_jobs driven_by (jobs ++ j ∷ []) d in
    (new.counts ≡ full_counts j) × (new.words ≡ words_of (told j (full_counts j)))
