-- Acts in line: each may follow those before it, as far as its operator, its medium and its duration go.
use Rattle.std.proofs.Common.{ℕ, Bool, true, ◌&&◌, List, [], ◌∷◌, ◌++◌, Option}
use Rattle.std.specs.Prelude.{slice_get, nat_le}
use Rattle.durations.specs.Graph.{Graph, len_of}
use Rattle.durations.specs.Archi.{Architecture}
use Rattle.schedule.specs.Acts.{Act, carry, run, is_over}
use Rattle.schedule.specs.Valid.{have_ended, is_carried, is_placement}

module _ (g : Graph) (a : Architecture) (ticks : ℕ → ℕ → Option ℕ) where
  abbrev pub lined : List Act → Act → Bool
  lined before (carry t) =
      nat_le 1 (len_of g.vertices t.source) && is_carried (slice_get a.media t.medium) (len_of g.vertices t.source) t && have_ended (is_over t.medium) before t.start
  lined before (run d) = is_placement g a ticks before d

  abbrev pub lined_after : List Act → List Act → Bool
  lined_after before [] = true
  lined_after before (x ∷ xs) = lined before x && lined_after (before ++ x ∷ []) xs
