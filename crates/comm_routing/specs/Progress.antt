-- What may be placed where, by the tables.
use Rattle.std.specs.Prelude.{ℕ, Bool, ◌&&◌, nat_eq, nat_lt, length, [], is_some, slice_get}
use Rattle.std.specs.List.{list_all}
use Rattle.schedule.specs.Graph.{with_vertex}
use Rattle.schedule.specs.FlatOrder.{get_half}
use Rattle.schedule.specs.Table.{entry_in}
use Rattle.comm_routing.specs.Board.{Board, on_in}
use Rattle.comm_routing.specs.Candidates.{flag_at}
use Rattle.comm_routing.specs.Draft.{Drafted}
use Rattle.comm_routing.specs.declared.candidates.Candidates.{Candidates}

module _ (d : Drafted) (b : Board) (c : Candidates) where
  -- it has a duration on the operator, and a set half stands where its get half does
  abbrev pub may_stand_in : ℕ → ℕ → Bool
  may_stand_in v p =
      nat_lt p (length d.archi.operators) && is_some (entry_in d.durations v p) &&
      list_all (λ u. nat_eq (on_in b u) p)
      (with_vertex (slice_get d.graph.vertices v) [] (λ x. get_half x.kind x.twin))

  abbrev pub may_place_in : ℕ → ℕ → Bool
  may_place_in v p = nat_lt v (length d.graph.vertices) && (flag_at c v && may_stand_in v p)
