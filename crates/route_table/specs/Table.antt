-- The routes between all operators of an architecture.
use Rattle.std.specs.Prelude.{◌≡◌, ℕ, ◌+◌, ◌*◌, ◌<◌, ◌≤◌, List, [], length, slice_index_or}
use Rattle.archi_graph.specs.declared.medium.Hop.{Hop}
use Rattle.archi_graph.specs.Archi.{Architecture}
use Rattle.archi_graph.specs.Routes.{IsHop}
use Rattle.route_table.specs.Least.{IsLeastRoute}

-- No route of a table has more hops: each operator is joined with operator 0 by at most as many hops as there are
-- operators, and so each two are joined by at most twice as many.
abbrev pub most_hops : ℕ
most_hops = 32

-- a route for each pair of operators, by the first one and then by the second
pub record RouteTable : Type 0 where
  pub operators : ℕ
  pub routes : List (List Hop)

-- The route of the table from the first operator to the second, if both are operators of it.
abbrev pub route_in : RouteTable → ℕ → ℕ → List Hop
route_in t from to = slice_index_or t.routes (from * t.operators + to) []

-- the level of an operator is the number of hops of its route
abbrev pub level_in : RouteTable → ℕ → ℕ → ℕ
level_in t from to = length (route_in t from to)

-- The table of an architecture: all least routes. Each medium changes a level by at most one.
pub record IsTableOf (archi : Architecture) (table : RouteTable) : Type 0 where
  pub operators : table.operators ≡ length archi.operators
  pub there : length table.routes ≡ table.operators * table.operators
  pub least : (from to : ℕ) → from < table.operators → to < table.operators
      → IsLeastRoute archi.media from (route_in table from to) to
  pub levels : (from near far : ℕ) (h : Hop)
      → from < table.operators → near < table.operators → h.to ≡ far → far < table.operators → IsHop archi.media near h
      → level_in table from far ≤ level_in table from near + 1
