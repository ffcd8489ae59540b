-- Tables of arcs: of each act of a schedule a row with its arcs, in any order. The tests of rates
-- and cycles over a table, which code computes.
use Rattle.std.specs.Prelude.{
  ◌≡◌,
  ◌+◌,
  ◌*◌,
  ℕ,
  Bool,
  true,
  ◌&&◌,
  ◌==◌,
  nat_le,
  List,
  [],
  ◌∷◌,
  length,
  Some,
  slice_get,
  slice_index_or,
}
use Rattle.std.specs.List.{list_all, list_any}
use Rattle.self_timed.specs.declared.Vertex.{Vertex}
use Rattle.self_timed.specs.Acts.{Act}
use Rattle.rates.specs.declared.table.Arc.{Arc}
use Rattle.rates.specs.Arcs.{arcs}
use Rattle.rates.specs.Rates.{begin_or, has_room, lags, length_over, same_arc}

-- The row of act i, and the empty row if the table has none.
abbrev pub row_of : List (List Arc) → ℕ → List Arc
row_of table i = slice_index_or table i []

-- The number of act i in a list of durations or of offsets, and 0 if it has none.
abbrev pub at : List ℕ → ℕ → ℕ
at numbers i = slice_index_or numbers i 0

-- The table has a row for each act of xs, and each row has the arcs of its act and no others.
pub record IsTableOf (depth : ℕ) (vertices : List Vertex) (xs : List Act)
    (table : List (List Arc)) : Type 0 where
  pub count : length table ≡ length xs
  pub listed : (i : ℕ) (x : Act) → slice_get xs i ≡ Some x
      → (r : ℕ) (a : Arc) → slice_get (arcs depth vertices xs i x) r ≡ Some a
      → (q : ℕ) × (slice_get (row_of table i) q ≡ Some a)
  pub only : (i : ℕ) (x : Act) → slice_get xs i ≡ Some x
      → (q : ℕ) (a : Arc) → slice_get (row_of table i) q ≡ Some a
      → (r : ℕ) × (slice_get (arcs depth vertices xs i x) r ≡ Some a)

-- The test of a rate with offsets, if act i lasts `long i`.
module _ (long : ℕ → ℕ) (ticks reactions : ℕ) (offset : ℕ → ℕ) where
  -- Act i, which has this row, fits with its offset.
  abbrev pub row_fits : ℕ → List Arc → Bool
  row_fits i row =
      nat_le (reactions * long i) (offset i)
      && list_all (has_room long ticks reactions offset i) row

  -- Each act fits with its offset, of those with these rows, of which the first has number i.
  abbrev pub rows_fit_from : ℕ → List (List Arc) → Bool
  rows_fit_from i [] = true
  rows_fit_from i (row ∷ more) = row_fits i row && rows_fit_from (i + 1) more

  -- Each act of the table fits with its offset.
  abbrev pub rows_fit : List (List Arc) → Bool
  rows_fit table = rows_fit_from 0 table

-- The test of a critical cycle over a table.
module _ (table : List (List Arc)) where
  -- The arc is in the row of act i.
  abbrev pub is_in_row : ℕ → Arc → Bool
  is_in_row i a = list_any (same_arc a) (row_of table i)

  -- These arcs are a way to act i.
  abbrev pub is_way_in : ℕ → List Arc → Bool
  is_way_in i [] = true
  is_way_in i (a ∷ more) = is_in_row (begin_or i more) a && is_way_in i more

  -- These arcs are a cycle from act i.
  abbrev pub is_cycle_in : ℕ → List Arc → Bool
  is_cycle_in i way = begin_or i way == i && (is_way_in i way && nat_le 1 (lags way))

  -- These arcs are a cycle from act i that is critical at this rate, if act i lasts `long i`.
  abbrev pub is_critical_in : (ℕ → ℕ) → ℕ → ℕ → ℕ → List Arc → Bool
  is_critical_in long ticks reactions i way =
      is_cycle_in i way && reactions * length_over long way == ticks * lags way
