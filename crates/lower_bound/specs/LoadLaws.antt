-- What holds of the loads of every valid schedule.
use Rattle.std.specs.Prelude.{ℕ, ◌≤◌, IsTrue, Option}
use Rattle.self_timed.specs.Graph.{Graph}
use Rattle.self_timed.specs.Archi.{Architecture}
use Rattle.self_timed.specs.declared.Schedule.{Schedule}
use Rattle.self_timed.specs.Acts.{acts, is_on, is_over, length_of}
use Rattle.self_timed.specs.ScheduleValid.{is_valid}
use Rattle.lower_bound.specs.Numbers.{busy}

-- no operator and no medium is busy for longer than the schedule lasts
abbrev pub NoLineIsOverfull : Type 0
NoLineIsOverfull = (g : Graph) (a : Architecture) (ticks : ℕ → ℕ → Option ℕ) (s : Schedule)
    → IsTrue (is_valid g a ticks s) → (n : ℕ)
    → (busy (is_on n) (acts s) ≤ length_of s) × (busy (is_over n) (acts s) ≤ length_of s)
