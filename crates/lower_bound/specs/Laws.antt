-- What the bound is below.
use Rattle.std.specs.Prelude.{ℕ, ◌<◌, ◌≤◌, IsTrue, List, is_some, length, Option}
use Rattle.std.specs.List.{list_any, range_with_len}
use Rattle.self_timed.specs.declared.Vertex.{Vertex}
use Rattle.self_timed.specs.Graph.{Graph}
use Rattle.self_timed.specs.declared.Medium.{Medium}
use Rattle.self_timed.specs.Archi.{Architecture}
use Rattle.self_timed.specs.declared.Schedule.{Schedule}
use Rattle.self_timed.specs.Acts.{length_of}
use Rattle.self_timed.specs.ScheduleValid.{is_valid}
use Rattle.lower_bound.specs.Bound.{longest_carried, longest_chain, lower_bound}

-- this is below the length of every valid schedule
abbrev pub IsBelowAll : Graph → Architecture → (ℕ → ℕ → Option ℕ) → ℕ → Type 0
IsBelowAll g a ticks n = (s : Schedule) → IsTrue (is_valid g a ticks s) → n ≤ length_of s

-- no valid schedule is shorter than the bound
abbrev pub NoValidScheduleIsShorter : Type 0
NoValidScheduleIsShorter = (g : Graph) (a : Architecture) (ticks : ℕ → ℕ → Option ℕ)
    → IsBelowAll g a ticks (lower_bound (length a.operators) ticks g.vertices a.media)

-- where each operation may stand on some operator, a chain with transfers is no shorter than one without
abbrev pub TransfersOnlyLengthen : Type 0
TransfersOnlyLengthen = (operators : ℕ) (ticks : ℕ → ℕ → Option ℕ) (vertices : List Vertex) (media : List Medium)
    → ((v : ℕ) → v < length vertices → IsTrue (list_any (λ o. is_some (ticks v o)) (range_with_len 0 operators)))
    → longest_chain operators ticks vertices ≤ longest_carried operators ticks vertices media
