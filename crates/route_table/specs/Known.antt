-- A table in the making.
use Rattle.std.specs.Prelude.{◌≡◌, ℕ, ◌<◌, ◌≤◌, true, List, length}
use Rattle.archi_graph.specs.declared.medium.Medium.{Medium}
use Rattle.archi_graph.specs.declared.medium.Hop.{Hop}
use Rattle.archi_graph.specs.Routes.{IsRoute}
use Rattle.route_table.specs.Least.{IsLeastRoute}
use Rattle.route_table.specs.Table.{RouteTable, route_in}
use Rattle.route_table.specs.Search.{is_known}

-- where some route has at most this many hops, the least one is there
abbrev pub Covers : List Medium → RouteTable → ℕ → ℕ → ℕ → Type 0
Covers media t hops from to = (r : List Hop) → IsRoute media from r to → length r ≤ hops → is_known t from to ≡ true

-- each route that is there is the least one, and those of at most this many hops are there
pub record IsKnownWithin (media : List Medium) (table : RouteTable) (hops : ℕ) : Type 0 where
  pub least : (from to : ℕ) → from < table.operators → to < table.operators → is_known table from to ≡ true
      → IsLeastRoute media from (route_in table from to) to
  pub covers : (from to : ℕ) → from < table.operators → to < table.operators → Covers media table hops from to

-- the table keeps its size, and what is there stays there
abbrev pub Grows : RouteTable → RouteTable → Type 0
Grows before after =
    (after.operators ≡ before.operators) × (length after.routes ≡ length before.routes) ×
    ((from to : ℕ) → from < before.operators → to < before.operators → is_known before from to ≡ true
    → is_known after from to ≡ true)
