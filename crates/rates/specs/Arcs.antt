-- What must precede an act of a schedule in any reaction, as arcs: each leads back to an act, so
-- many reactions before.
use Rattle.std.specs.Prelude.{
  ℕ,
  ◌-◌,
  cond,
  nat_le,
  List,
  [],
  ◌∷◌,
  ◌++◌,
  map,
  take,
  Option,
  Some,
  None,
}
use Rattle.self_timed.specs.declared.Vertex.{Vertex}
use Rattle.self_timed.specs.Acts.{Act}
use Rattle.self_timed.specs.Tight.{same_line, reads_from}
use Rattle.self_timed.specs.Serial.{numbers_where}
use Rattle.self_timed.specs.Dates.{Event, event, last_where, has_reader}
use Rattle.rates.specs.declared.table.Arc.{Arc}

-- The arc to act i, by its number from 0, this many reactions before.
abbrev pub arc : ℕ → ℕ → Arc
arc lag i = record { act = i; lag = lag }

-- The arc to the first of two acts in the same reaction if it is given; otherwise the arc to the
-- second one in the reaction before if that is given; otherwise none.
abbrev pub latest_arc : Option ℕ → Option ℕ → List Arc
latest_arc (Some i) o = arc 0 i ∷ []
latest_arc None (Some i) = arc 1 i ∷ []
latest_arc None None = []

-- The arcs of a schedule's acts xs, if buffers that another sequence reads have this depth.
module _ (depth : ℕ) (vertices : List Vertex) (xs : List Act) where
  -- The arcs of act i, which is x. The first leads to the act before it on its operator or medium,
  -- and if it is the first there, to the last one there in the reaction before. The next lead to
  -- the acts before it that make what it reads. The last lead to the acts in other sequences that
  -- read what it makes, as many reactions before as the buffer has places.
  abbrev pub arcs : ℕ → Act → List Arc
  arcs i x =
      latest_arc (last_where (same_line x) 0 (take i xs)) (last_where (same_line x) 0 xs)
      ++ (map (arc 0) (numbers_where (reads_from vertices x) 0 (take i xs))
      ++ map (arc depth) (numbers_where (has_reader vertices x) 0 xs))

-- The acts to which these arcs lead from reaction k. An arc that would lead to a reaction before
-- the first one leads to none.
abbrev pub back_from : ℕ → List Arc → List Event
back_from k [] = []
back_from k (a ∷ more) =
    cond (nat_le a.lag k) (event (k - a.lag) a.act ∷ back_from k more) (back_from k more)
