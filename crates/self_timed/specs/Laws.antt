-- Laws of the dates: there is exactly one list of them; they are no later than the schedule says; and where the
-- schedule is tight they are its own in the first reaction.
use Rattle.std.specs.Prelude.{
  ◌≡◌,
  ◌↔◌,
  true,
  false,
  suc,
  ℕ,
  ◌+◌,
  ◌*◌,
  ◌≤◌,
  ◌<◌,
  IsTrue,
  List,
  map,
  length,
  Option,
  Some,
  slice_get,
}
use Rattle.std.specs.List.{count_by}
use Rattle.sequence_build_laws.specs.declared.Vertex.{Vertex}
use Rattle.sequence_build_laws.specs.Graph.{Graph}
use Rattle.sequence_build_laws.specs.Archi.{Architecture, is_archi}
use Rattle.sequence_build_laws.specs.Instructions.{depth_of}
use Rattle.sequence_build_laws.specs.declared.Schedule.{Schedule}
use Rattle.sequence_build_laws.specs.Acts.{Act, Copy, acts, start_of, end_of, length_of, read_by, made_by}
use Rattle.sequence_build_laws.specs.ScheduleValid.{is_valid}
use Rattle.sequence_build_laws.specs.Tight.{same_line, is_tight}
use Rattle.sequence_build_laws.specs.Serial.{buffer_for}
use Rattle.sequence_build_laws.specs.Built.{program_with}
use Rattle.self_timed.specs.Dates.{AreDates, dates, start_by}
use Rattle.self_timed.specs.Entries.{
  stated,
  is_transfer,
  entry_of,
  lasting,
  AreWithin,
  IsFirstStated,
  dates_of_reaction,
}

-- for any acts, durations and depth of at least 1
abbrev pub DatesAreOne : Type 0
DatesAreOne = (depth : ℕ) (vertices : List Vertex) (xs : List Act) (lasts : ℕ → ℕ → ℕ) → 1 ≤ depth
    → AreDates depth vertices xs lasts (dates depth vertices xs lasts)
    × ((ends : ℕ → ℕ → ℕ) → AreDates depth vertices xs lasts ends
    → (k i : ℕ) → i < length xs → ends k i ≡ dates depth vertices xs lasts k i)

-- Acts on one operator, or over one medium, never overlap: they keep their order, in one reaction and from one to the
-- next.
abbrev pub LinesAreInOrder : Type 0
LinesAreInOrder = (depth : ℕ) (vertices : List Vertex) (xs : List Act) (lasts ends : ℕ → ℕ → ℕ)
    → AreDates depth vertices xs lasts ends
    → (k i j : ℕ) (x y : Act) → slice_get xs i ≡ Some x → slice_get xs j ≡ Some y → same_line x y ≡ true
    → (j < i → ends k j ≤ start_by depth vertices xs ends k i x)
    × (ends k j ≤ start_by depth vertices xs ends (suc k) i x)

module _ (g : Graph) (s : Schedule) where
  -- no act lasts longer than stated
  abbrev pub NoneLonger : (ℕ → ℕ → ℕ) → Type 0
  NoneLonger lasts = (k i : ℕ) (x : Act) → slice_get (acts s) i ≡ Some x → lasts k i ≤ stated x

  -- in the first reaction each lasts as stated
  abbrev pub FirstAsStated : (ℕ → ℕ → ℕ) → Type 0
  FirstAsStated lasts = (i : ℕ) (x : Act) → slice_get (acts s) i ≡ Some x → lasts 0 i ≡ stated x

-- If the schedule is valid, each buffer has a place and no act lasts longer than stated, then each
-- act ends in reaction k no later than k times the length of the schedule after its end in the
-- schedule.
abbrev pub NoLaterThanStated : Type 0
NoLaterThanStated = (depth : ℕ) (g : Graph) (a : Architecture) (ticks : ℕ → ℕ → Option ℕ) (s : Schedule)
    (lasts ends : ℕ → ℕ → ℕ) → 1 ≤ depth → IsTrue (is_valid g a ticks s)
    → NoneLonger g s lasts → AreDates depth g.vertices (acts s) lasts ends
    → (k i : ℕ) (x : Act) → slice_get (acts s) i ≡ Some x → ends k i ≤ k * length_of s + end_of x

-- and only of such a schedule
abbrev pub FirstReactionIsStated : Type 0
FirstReactionIsStated = (depth : ℕ) (g : Graph) (a : Architecture) (ticks : ℕ → ℕ → Option ℕ) (s : Schedule)
    (lasts ends : ℕ → ℕ → ℕ) → 1 ≤ depth → IsTrue (is_valid g a ticks s)
    → FirstAsStated g s lasts → AreDates depth g.vertices (acts s) lasts ends
    → IsTrue (is_tight g s) ↔ ((i : ℕ) (x : Act) → slice_get (acts s) i ≡ Some x
    → (start_by depth g.vertices (acts s) ends 0 i x ≡ start_of x) × (ends 0 i ≡ end_of x))

-- each entry is that of one act
abbrev pub EntriesAreActs : Type 0
EntriesAreActs = (g : Graph) (a : Architecture) (ticks : ℕ → ℕ → Option ℕ) (s : Schedule)
    → IsTrue (is_valid g a ticks s)
    → ((e : ℕ) → e < length g.vertices + count_by is_transfer (acts s)
    → (i : ℕ) × (x : Act) × (slice_get (acts s) i ≡ Some x) × (entry_of g.vertices (acts s) i ≡ e))
    × ((i j : ℕ) (x y : Act) → slice_get (acts s) i ≡ Some x → slice_get (acts s) j ≡ Some y
    → entry_of g.vertices (acts s) i ≡ entry_of g.vertices (acts s) j → i ≡ j)

-- the buffer of what one act makes and another one reads in another sequence has the program's number of places
abbrev pub BuffersHaveDepth : Type 0
BuffersHaveDepth = (depth : ℕ) (g : Graph) (a : Architecture) (ticks : ℕ → ℕ → Option ℕ) (s : Schedule)
    → IsTrue (is_archi a.operators a.media) → IsTrue (is_valid g a ticks s)
    → (i j h k : ℕ) (x y : Act) (c : Copy) → slice_get (acts s) i ≡ Some x → slice_get (acts s) j ≡ Some y
    → slice_get (made_by g.vertices x) h ≡ Some c → slice_get (read_by g.vertices y) k ≡ Some c
    → same_line x y ≡ false → depth_of (program_with depth g a s) (buffer_for g a s c) ≡ depth

-- With the ticks of each reaction by entry: what is told of the dates is no later than stated, and of the first
-- reaction it is the chart.
abbrev pub EntriesEndInTime : Type 0
EntriesEndInTime = (depth : ℕ) (g : Graph) (a : Architecture) (durations : ℕ → ℕ → Option ℕ) (s : Schedule)
    (ticks : List (List ℕ)) → 1 ≤ depth → IsTrue (is_valid g a durations s)
    → (AreWithin g.vertices (acts s) ticks → (k i : ℕ) (x : Act) → slice_get (acts s) i ≡ Some x
    → dates depth g.vertices (acts s) (lasting g.vertices (acts s) ticks) k i ≤ k * length_of s + end_of x)
    × (IsFirstStated g.vertices (acts s) ticks → IsTrue (is_tight g s)
    → dates_of_reaction depth g.vertices (acts s) (lasting g.vertices (acts s) ticks) 0
    ≡ map (λ x. (start_of x, end_of x)) (acts s))
