-- Tails by operations and their table of durations, round by round.
use Rattle.std.specs.Prelude.{ℕ, zero, suc, ◌+◌, List, map, length, max, if◌then◌else◌, nat_eq}
use Rattle.std.specs.List.{filter, list_any, range_with_len}
use Rattle.schedule.specs.declared.Vertex.{Vertex}
use Rattle.schedule.specs.Table.{Table, least_of, row_in}
use Rattle.comm_routing.specs.Placing.{ticks_in}
use Rattle.comm_routing.specs.Candidates.{needs_of}
use Rattle.syn_base.specs.Numbers.{greatest}

abbrev pub least_in : Table → ℕ → ℕ
least_in table v = ticks_in (least_of (row_in table v))

module _ (vertices : List Vertex) (table : Table) where
  -- of the operations below this number, those that depend on this one: the greatest sum of such a one's least
  -- duration and what it had before
  abbrev pub so_far : (ℕ → ℕ) → ℕ → ℕ → ℕ
  so_far before count v =
      greatest (map (λ s. least_in table s + before s)
      (filter (λ s. list_any (nat_eq v) (needs_of vertices s)) (range_with_len 0 count)))

  abbrev pub tails_in : ℕ → ℕ → ℕ
  tails_in zero v = 0
  tails_in (suc rounds) v = so_far (tails_in rounds) (length vertices) v

-- a date that is raised to this one, where the operation is among these
abbrev pub raised : List ℕ → ℕ → ℕ → ℕ → ℕ
raised needs v date n = if list_any (nat_eq v) needs then max n date else n
