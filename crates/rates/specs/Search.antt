-- The search for offsets that fit a rate, over a table of arcs: of each act an offset so far, and
-- the arc that gave it, if it is not the first one that the act had.
use Rattle.std.specs.Prelude.{
  ◌≡◌,
  ◌+◌,
  ◌*◌,
  ◌^◌,
  ◌<◌,
  ◌≤◌,
  ℕ,
  true,
  List,
  [],
  ◌∷◌,
  length,
  Option,
  Some,
  None,
  slice_get,
  slice_index_or,
}
use Rattle.std.specs.List.{list_all}
use Rattle.rates.specs.declared.table.Arc.{Arc}
use Rattle.rates.specs.declared.table.Rate.{Rate}
use Rattle.rates.specs.declared.search.Lacking.{Lacking}
use Rattle.rates.specs.declared.search.Found.{Found}
use Rattle.rates.specs.declared.search.Found.TheVariants.{Fits, Over}
use Rattle.rates.specs.Rates.{begin_or, has_room, lags, length_over}
use Rattle.rates.specs.Tables.{at, is_way_in, row_of, rows_fit}

-- The arc is in the row of act i.
pub record IsInRow (table : List (List Arc)) (a : Arc) (i : ℕ) : Type 0 where
  pub place : ℕ
  pub is : slice_get (row_of table i) place ≡ Some a

-- The rows are those of so few acts, and the acts so short and their lags so low, that all sums of
-- a search fit their words; each arc leads to an act that is there, and to one with a lower number
-- if it leads over no reaction.
pub record IsSearchable (table : List (List Arc)) (long : List ℕ) : Type 0 where
  pub few : length table ≤ 2 ^ 22
  pub short : (i : ℕ) → at long i ≤ 2 ^ 30
  pub low : (a : Arc) (i : ℕ) → IsInRow table a i → a.lag ≤ 2 ^ 8
  pub there : (a : Arc) (i : ℕ) → IsInRow table a i → a.act < length table
  pub up : (a : Arc) (i : ℕ) → IsInRow table a i → a.lag ≡ 0 → a.act < i

-- The arc that gave act i its offset, if there is one.
abbrev pub given_at : List (Option Arc) → ℕ → Option Arc
given_at given i = slice_index_or given i None

-- The arcs that gave acts their offsets, by act.
module _ (given : ℕ → Option Arc) where
  -- These arcs lead from act i back to an act whose offset is its first.
  abbrev pub Back : ℕ → List Arc → Type 0
  Back i [] = given i ≡ None
  Back i (a ∷ w) = (given i ≡ Some a) × Back a.act w

  -- These arcs lead from act i back to act j.
  abbrev pub Leads : ℕ → List Arc → ℕ → Type 0
  Leads i [] j = i ≡ j
  Leads i (a ∷ w) j = (given i ≡ Some a) × Leads a.act w j

  -- From act i arcs lead back to an act whose offset is its first, fewer than this.
  pub record IsRooted (count i : ℕ) : Type 0 where
    pub way : List Arc
    pub back : Back i way
    pub short : length way < count

-- The acts on the way from act i over these arcs, both ends with them.
abbrev pub acts_back : ℕ → List Arc → List ℕ
acts_back i [] = i ∷ []
acts_back i (a ∷ w) = i ∷ acts_back a.act w

-- Act j is none of them.
abbrev pub Avoids : ℕ → ℕ → List Arc → Type 0
Avoids j i w = (p : ℕ) → slice_get (acts_back i w) p ≡ Some j → ⊥

-- These arcs in the other order, before other arcs.
abbrev pub turned : List Arc → List Arc → List Arc
turned [] after = after
turned (a ∷ u) after = turned u (a ∷ after)

-- The arcs lead from the act of the lacking arc back to an act whose offset is its first, and the
-- lacking act is not on the way.
pub record Misses (given : List (Option Arc)) (lacking : Lacking) : Type 0 where
  pub way : List Arc
  pub back : Back (given_at given) lacking.arc.act way
  pub avoids : Avoids lacking.act lacking.arc.act way

-- The arcs lead from the act of the lacking arc back to the lacking act; this is that cycle.
pub record Closes (given : List (Option Arc)) (lacking : Lacking) (cycle : List Arc) : Type 0 where
  pub way : List Arc
  pub leads : Leads (given_at given) lacking.arc.act way lacking.act
  pub short : length way < length given
  pub is : cycle ≡ turned way (lacking.arc ∷ [])

-- The offsets are the first ones of so many acts, which last so long, at this number of reactions.
pub record AreFirst (long : List ℕ) (reactions count : ℕ) (offsets : List ℕ) : Type 0 where
  pub size : length offsets ≡ count
  pub each : (i : ℕ) → i < count → at offsets i ≡ reactions * at long i

-- The arc is one of these, and after the act to which it leads act i has no room.
pub record LacksIn (row : List Arc) (i : ℕ) (long : List ℕ) (rate : Rate) (offsets : List ℕ)
    (a : Arc) : Type 0 where
  pub place : ℕ
  pub is : slice_get row place ≡ Some a
  pub over : at offsets i + a.lag * rate.ticks < at offsets a.act + rate.reactions * at long i

-- The acts of a table, which last so long, at this rate.
module _ (table : List (List Arc)) (long : List ℕ) (rate : Rate) where
  -- The act has no room after the act to which the arc leads.
  pub record Lacks (offsets : List ℕ) (lacking : Lacking) : Type 0 where
    pub here : lacking.act < length table
    pub is : IsInRow table lacking.arc lacking.act
    pub over : at offsets lacking.act + lacking.arc.lag * rate.ticks
        < at offsets lacking.arc.act + rate.reactions * at long lacking.act

  -- Each act from this one on has room after each act to which an arc of it leads.
  abbrev pub HaveRoomFrom : List ℕ → ℕ → Type 0
  HaveRoomFrom offsets from = (i : ℕ) → from ≤ i → i < length table
      → list_all (has_room (at long) rate.ticks rate.reactions (at offsets) i) (row_of table i) ≡ true

  -- The arcs are a cycle from act i, which lasts longer than the rate has ticks for it.
  pub record IsOver (i : ℕ) (way : List Arc) : Type 0 where
    pub begins : begin_or i way ≡ i
    pub leads : is_way_in table i way ≡ true
    pub longer : rate.ticks * lags way < rate.reactions * length_over (at long) way
    pub later : 0 < lags way
    pub few : length way ≤ length table

  -- The offsets fit the rate, or a cycle is over it.
  abbrev pub IsFit : Found → Type 0
  IsFit (Fits offsets) = rows_fit (at long) rate.ticks rate.reactions (at offsets) table ≡ true
  IsFit (Over i way) = IsOver i way
