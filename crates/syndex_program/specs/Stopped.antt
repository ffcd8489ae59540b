-- How windows go on, and how they end.
use Rattle.std.specs.Prelude.{◌≡◌, ℕ, List, [], ◌∷◌, Option, Some, None, Result, Ok, Err, Vec}
use Rattle.word_rule.specs.Job.{JobData}
use Rattle.word_rule.specs.Driven.{Driven, driven_by}
use Rattle.top_plans.specs.Ending.{Ending, done, unwritten, no_memory}
use Rattle.top_plans.specs.Stage.{Stage, after_jobs, RunsSome}
use Rattle.syndex_program.specs.declared.lines.Stopped.{Stopped}
use Rattle.syndex_program.specs.declared.lines.Stopped.TheVariants as stopped

abbrev pub ending_of : {R A : Type 0} → Result A Stopped → Ending R
ending_of (Ok a) = done
ending_of (Err stopped.Unwritten) = unwritten
ending_of (Err stopped.OutOfMemory) = no_memory

-- Of the windows that are left, the first was run and this is its text; or none is left; or memory ran out, and some
-- of the first one's jobs were run.
abbrev pub GoesOn : {A E : Type 0} → (old new : List (Stage JobData)) → (driven driven' : Driven) →
    Result (Option (Vec ℕ A)) E → Type 0
GoesOn old new driven driven' (Ok (Some text)) =
    (stage : Stage JobData) × (old ≡ stage ∷ new) × (text.items ≡ stage.text) ×
    (driven' ≡ after_jobs driven_by stage.jobs driven)
GoesOn old new driven driven' (Ok None) = (old ≡ []) × (driven' ≡ driven)
GoesOn old new driven driven' (Err e) =
    (stage : Stage JobData) × (rest : List (Stage JobData)) × (old ≡ stage ∷ rest) ×
    RunsSome driven_by stage.jobs driven driven'
