-- The operations of a longest chain.
use Rattle.std.specs.Prelude.{
  ◌≡◌,
  ℕ,
  zero,
  suc,
  nat_eq,
  if◌then◌else◌,
  IsTrue,
  Bool,
  true,
  false,
  ◌&&◌,
  List,
  [],
  ◌∷◌,
  length,
  map,
  reverse,
  Option,
  Some,
  None,
  sum_by,
}
use Rattle.std.specs.List.{list_any}
use Rattle.self_timed.specs.declared.Vertex.{Vertex}
use Rattle.self_timed.specs.FlatOrder.{is_acyclic}
use Rattle.lower_bound.specs.declared.links.Link.{Link}
use Rattle.lower_bound.specs.Bound.{all_operations, chain_to, least, longest_chain}
use Rattle.comm_routing.specs.Candidates.{needs_of}
use Rattle.syn_base.specs.Numbers.{greatest}

-- the first of these operations that has this date
abbrev pub first_at : (ℕ → ℕ) → ℕ → List ℕ → Option ℕ
first_at dates date [] = None
first_at dates date (v ∷ vs) = if nat_eq (dates v) date then Some v else first_at dates date vs

-- the first of those with the greatest date
abbrev pub latest_of : (ℕ → ℕ) → List ℕ → Option ℕ
latest_of dates vs = first_at dates (greatest (map dates vs)) vs

-- the first of these operations is one of those that are needed, or none is needed and there are no more
abbrev pub goes_on : List ℕ → List ℕ → Bool
goes_on [] [] = true
goes_on (n ∷ ns) [] = false
goes_on ns (u ∷ us) = list_any (nat_eq u) ns

module _ (operators : ℕ) (ticks : ℕ → ℕ → Option ℕ) (vertices : List Vertex) where
  -- from an operation back: itself, then the first of those that it needs up to whose end the longest chain is longest,
  -- and so on, over at most so many
  abbrev pub back_within : ℕ → Option ℕ → List ℕ
  back_within zero o = []
  back_within (suc n) None = []
  back_within (suc n) (Some v) =
      v ∷ back_within n (latest_of (chain_to operators ticks vertices) (needs_of vertices v))

  -- the longest chain from its last operation back to its first: of several the first by number
  abbrev pub chain_back : List ℕ
  chain_back =
      back_within (length vertices)
      (latest_of (chain_to operators ticks vertices) (all_operations (length vertices)))

  -- Operation v as a link of the chain, with its least duration in ticks.
  abbrev pub link_of : ℕ → Link
  link_of v = record { op = v; ticks = least operators ticks v }

  -- The operations of the chain from the first to the last, each with its least duration.
  abbrev pub chain_links : List Link
  chain_links = reverse (map link_of chain_back)

  -- each of these is followed by one that it needs, and the last needs none
  abbrev pub goes_back : List ℕ → Bool
  goes_back [] = true
  goes_back (v ∷ us) = goes_on (needs_of vertices v) us && goes_back us

-- The operations of the chain last together as long as the longest chain, by their least durations. Each is needed by
-- the next, and the first needs none.
abbrev pub ChainLastsLongest : Type 0
ChainLastsLongest = (operators : ℕ) (ticks : ℕ → ℕ → Option ℕ) (vertices : List Vertex) → IsTrue (is_acyclic vertices)
    → (sum_by (least operators ticks) (chain_back operators ticks vertices) ≡ longest_chain operators ticks vertices)
    × IsTrue (goes_back operators ticks vertices (chain_back operators ticks vertices))
