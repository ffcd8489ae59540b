-- The check of copies, for the outputs of sixteen operations at a time: a table says from when on each copy is held.
use Rattle.std.specs.Prelude.{
  ◌≡◌,
  ℕ,
  ◌+◌,
  ◌-◌,
  ◌*◌,
  Bool,
  true,
  false,
  ◌&&◌,
  ◌||◌,
  not,
  if◌then◌else◌,
  nat_le,
  nat_lt,
  min,
  List,
  [],
  ◌∷◌,
  ◌++◌,
  length,
  Option,
  Some,
  None,
  is_none,
  slice_index_or,
  slice_set,
}
use Rattle.std.specs.List.{list_all, list_any}
use Rattle.durations.specs.declared.Vertex.{Vertex}
use Rattle.schedule.specs.declared.window.Window.{Window}
use Rattle.schedule.specs.Acts.{Act, carry, run, start_of, end_of, Copy, copy, same_copy, read_by, made_by}

-- how many places the table has: for 64 outputs of each of sixteen operations, on each of 16 operators
abbrev pub window_places : ℕ
window_places = 16384

-- no copy is held, of outputs of the operations from this one on
pub record IsEmpty (window : Window) (first : ℕ) : Type 0 where
  pub from : window.first ≡ first
  pub size : length window.held ≡ window_places
  pub none : (i : ℕ) → slice_index_or window.held i None ≡ None

-- the table has a place for the copy
abbrev pub covers : ℕ → Copy → Bool
covers first c =
    nat_le first c.source.vertex && nat_lt c.source.vertex (first + 16) && nat_lt c.source.port 64 &&
    nat_lt c.operator 16

abbrev pub place : ℕ → Copy → ℕ
place first c = ((c.source.vertex - first) * 64 + c.source.port) * 16 + c.operator

abbrev pub since : ℕ → List (Option ℕ) → Copy → Option ℕ
since first held c = slice_index_or held (place first c) None

abbrev pub is_by : Option ℕ → ℕ → Bool
is_by None date = false
is_by (Some start) date = nat_le start date

-- a copy that the table covers is held by this date; it is not there
abbrev pub is_in_time : Window → ℕ → Copy → Bool
is_in_time w date c = not (covers w.first c) || is_by (since w.first w.held c) date

abbrev pub is_new : Window → Copy → Bool
is_new w c = not (covers w.first c) || is_none (since w.first w.held c)

-- The lesser of this date and another one, which there may be.
abbrev pub lesser_date : Option ℕ → ℕ → ℕ
lesser_date None date = date
lesser_date (Some start) date = min start date

-- the copy is held from this date on, in the table of the operations from this one on
abbrev pub noted : ℕ → List (Option ℕ) → ℕ → Copy → List (Option ℕ)
noted first held date c =
    if covers first c then slice_set held (place first c) (Some (lesser_date (since first held c) date)) else held

abbrev pub noted_all : ℕ → List (Option ℕ) → ℕ → List Copy → List (Option ℕ)
noted_all first held date [] = held
noted_all first held date (c ∷ cs) = noted_all first (noted first held date c) date cs

module _ (vertices : List Vertex) where
  -- what a transfer brings was not there
  abbrev pub brings_new : Window → Act → Bool
  brings_new w (carry t) = is_new w (copy t.to t.source)
  brings_new w (run d) = true

  abbrev pub may_read : Window → Act → Bool
  may_read w x = brings_new w x && list_all (is_in_time w (start_of x)) (read_by vertices x)

  abbrev pub window_after : Window → Act → Window
  window_after w x = record { first = w.first; held = noted_all w.first w.held (end_of x) (made_by vertices x) }

  -- these acts, one after the other, read what is held, and bring what is not there
  abbrev pub are_fed : Window → List Act → Bool
  are_fed w [] = true
  are_fed w (x ∷ xs) = may_read w x && are_fed (window_after w x) xs

  -- the copy was made before, and what made it has ended by this date
  abbrev pub held_by : List Act → ℕ → Copy → Bool
  held_by before date c = list_any (λ y. nat_le (end_of y) date && list_any (same_copy c) (made_by vertices y)) before

  abbrev pub is_made : List Act → Copy → Bool
  is_made before c = list_any (λ y. list_any (same_copy c) (made_by vertices y)) before

  -- Of the copies that a table from this operation on covers: what a transfer brings was not there, and what an act
  -- reads is held when it starts.
  abbrev pub is_fresh : ℕ → List Act → Act → Bool
  is_fresh first before (carry t) = not (covers first (copy t.to t.source)) || not (is_made before (copy t.to t.source))
  is_fresh first before (run d) = true

  abbrev pub is_fed : ℕ → List Act → Act → Bool
  is_fed first before x =
      is_fresh first before x &&
      list_all (λ c. not (covers first c) || held_by before (start_of x) c) (read_by vertices x)

  abbrev pub fed_after : ℕ → List Act → List Act → Bool
  fed_after first before [] = true
  fed_after first before (x ∷ xs) = is_fed first before x && fed_after first (before ++ x ∷ []) xs

  -- the copies of the outputs of sixteen operations, of which the first has number 16 * k
  abbrev pub are_fed_from : List Act → ℕ → Bool
  are_fed_from xs k = fed_after (k * 16) [] xs
