-- Durations and dates by entry: operations by number, and then transfers in their order.
use Rattle.std.specs.Prelude.{
  ℕ,
  suc,
  ◌+◌,
  ◌-◌,
  Bool,
  true,
  false,
  List,
  [],
  ◌∷◌,
  length,
  take,
  Option,
  Some,
  None,
  slice_get,
  ◌≡◌,
  ◌≤◌,
}
use Rattle.std.specs.List.{count_by}
use Rattle.sequence_build_laws.specs.declared.Vertex.{Vertex}
use Rattle.sequence_build_laws.specs.Acts.{Act, carry, run, start_of, end_of}
use Rattle.sequence_build_laws.specs.Instructions.{number_or}
use Rattle.self_timed.specs.Dates.{dates, start_by, with_act}

-- The act is a transfer.
abbrev pub is_transfer : Act → Bool
is_transfer (carry t) = true
is_transfer (run d) = false

-- How many ticks an act lasts as the schedule states it, from its start to its end.
abbrev pub stated : Act → ℕ
stated x = end_of x - start_of x

-- the entry of an act, by the number of operations and that of the transfers before it
abbrev pub entry_at : ℕ → ℕ → Act → ℕ
entry_at operations before (run d) = d.op
entry_at operations before (carry t) = operations + before

-- The row if there is one, and the empty row otherwise.
abbrev pub row_in : Option (List ℕ) → List ℕ
row_in None = []
row_in (Some row) = row

module _ (vertices : List Vertex) (xs : List Act) where
  -- The entry of act i: for a run the number of its operation, and for a transfer how many
  -- operations there are plus how many transfers come before it. It is 0 if there is no act i.
  abbrev pub entry_of : ℕ → ℕ
  entry_of i = with_act (slice_get xs i) (entry_at (length vertices) (count_by is_transfer (take i xs)))

  -- how long act i lasts in reaction k, where these are the ticks of each reaction by entry
  abbrev pub lasting : List (List ℕ) → ℕ → ℕ → ℕ
  lasting ticks k i = number_or 0 (slice_get (row_in (slice_get ticks k)) (entry_of i))

  -- no entry of any reaction is longer than stated; in the first reaction each is as stated
  abbrev pub AreWithin : List (List ℕ) → Type 0
  AreWithin ticks = (k : ℕ) (row : List ℕ) → slice_get ticks k ≡ Some row
      → (i : ℕ) (x : Act) → slice_get xs i ≡ Some x → number_or 0 (slice_get row (entry_of i)) ≤ stated x

  -- In the first reaction each act lasts as the schedule states it.
  abbrev pub IsFirstStated : List (List ℕ) → Type 0
  IsFirstStated ticks = (i : ℕ) (x : Act) → slice_get xs i ≡ Some x → lasting ticks 0 i ≡ stated x

-- The dates of reaction k, start and end of each act in its order.
module _ (depth : ℕ) (vertices : List Vertex) (xs : List Act) (lasts : ℕ → ℕ → ℕ) where
  -- The start and the end of each of these acts in reaction k, in their order, if the first of them
  -- has number i.
  abbrev pub dates_from : ℕ → ℕ → List Act → List (ℕ × ℕ)
  dates_from k i [] = []
  dates_from k i (x ∷ ys) =
      (start_by depth vertices xs (dates depth vertices xs lasts) k i x, dates depth vertices xs lasts k i)
      ∷ dates_from k (suc i) ys

  -- The start and the end of each act in reaction k, in the order of the acts, in ticks from the
  -- beginning of the first reaction.
  abbrev pub dates_of_reaction : ℕ → List (ℕ × ℕ)
  dates_of_reaction k = dates_from k 0 xs
