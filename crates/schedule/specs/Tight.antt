-- Which schedules are tight: no act waits longer than for the act before it in its line, and for those that make
-- what it reads.
use Rattle.std.specs.Prelude.{
  ◌≡◌,
  ◌↔◌,
  ℕ,
  Bool,
  true,
  ◌&&◌,
  ◌==◌,
  IsTrue,
  List,
  [],
  ◌∷◌,
  ◌++◌,
  max,
  Some,
  slice_get,
  take,
}
use Rattle.std.specs.List.{list_any, filter}
use Rattle.durations.specs.declared.Vertex.{Vertex}
use Rattle.durations.specs.Graph.{Graph}
use Rattle.schedule.specs.declared.decision.Schedule.{Schedule}
use Rattle.schedule.specs.Acts.{
  Act,
  carry,
  run,
  acts,
  start_of,
  end_of,
  is_over,
  is_on,
  same_copy,
  read_by,
  made_by,
  latest,
}

-- The line of a transfer is its medium, that of a run its operator: the second act is in the line of the first.
abbrev pub same_line : Act → Act → Bool
same_line (carry t) y = is_over t.medium y
same_line (run d) y = is_on d.operator y

-- the end of the last of these, or else this date
abbrev pub last_end_or : ℕ → List Act → ℕ
last_end_or date [] = date
last_end_or date (y ∷ ys) = last_end_or (end_of y) ys

module _ (vertices : List Vertex) where
  -- the first act reads a copy that the second one makes
  abbrev pub reads_from : Act → Act → Bool
  reads_from x y = list_any (λ c. list_any (same_copy c) (made_by vertices y)) (read_by vertices x)

  -- the greatest end of the act before it in its line, and of those before it that make what it reads
  abbrev pub earliest : List Act → Act → ℕ
  earliest before x = max (last_end_or 0 (filter (same_line x) before)) (latest (filter (reads_from x) before))

  -- these start at their earliest dates, one after the other
  abbrev pub are_tight : List Act → List Act → Bool
  are_tight before [] = true
  are_tight before (x ∷ xs) = start_of x == earliest before x && are_tight (before ++ x ∷ []) xs

-- A schedule is tight if each act starts as soon as the act before it on its operator or medium and
-- the acts before it that make what it reads have ended, at 0 if there are none. It need not be
-- valid.
abbrev pub is_tight : Graph → Schedule → Bool
is_tight g s = are_tight g.vertices [] (acts s)

-- a schedule is tight exactly where each act, by number, starts at its earliest date after the acts before it
abbrev pub TightActByAct : Type 0
TightActByAct = (g : Graph) (s : Schedule)
    → IsTrue (is_tight g s) ↔
    ((i : ℕ) (x : Act) → slice_get (acts s) i ≡ Some x → start_of x ≡ earliest g.vertices (take i (acts s)) x)
