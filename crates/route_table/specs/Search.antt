-- The choice of a route's first hop among those that lead to routes of this many hops.
use Rattle.std.specs.Prelude.{
  ℕ,
  ◌+◌,
  Bool,
  true,
  ◌&&◌,
  ◌||◌,
  ◌==◌,
  nat_lt,
  if◌then◌else◌,
  List,
  [],
  ◌∷◌,
  Option,
  Some,
  None,
}
use Rattle.archi_graph.specs.declared.medium.Medium.{Medium}
use Rattle.archi_graph.specs.declared.medium.Hop.{Hop}
use Rattle.archi_graph.specs.Archi.{stands_at}
use Rattle.route_table.specs.Least.{is_less}
use Rattle.route_table.specs.Table.{RouteTable, route_in, level_in}

-- the route is there: from an operator to another one none is without a hop
abbrev pub is_known : RouteTable → ℕ → ℕ → Bool
is_known t from to = (from == to) || nat_lt 0 (level_in t from to)

-- the route is there, and it has this many hops
abbrev pub is_at : RouteTable → ℕ → ℕ → ℕ → Bool
is_at t hops from to = is_known t from to && (level_in t from to == hops)

-- the hop, and then the route from where it leads
abbrev pub through : RouteTable → ℕ → Hop → List Hop
through t to h = h ∷ route_in t h.to to

-- the hop gives a less route than the best one so far
abbrev pub is_better : RouteTable → ℕ → Option Hop → Hop → Bool
is_better t to None h = true
is_better t to (Some best) h = is_less (through t to h) (through t to best)

-- the better one of the best hop so far and this one, which has to lead to a route of this many hops
abbrev pub pick : RouteTable → ℕ → ℕ → Option Hop → Hop → Option Hop
pick t hops to best h = if is_at t hops h.to to && is_better t to best h then Some h else best

-- the best one of the hops over a medium
abbrev pub pick_over : RouteTable → ℕ → ℕ → ℕ → Option Hop → List ℕ → Option Hop
pick_over t hops to number best [] = best
pick_over t hops to number best (o ∷ stands) =
    pick_over t hops to number (pick t hops to best (record { medium = number; to = o })) stands

-- the best one of the hops from an operator over media that are numbered from this number on
abbrev pub pick_among : RouteTable → ℕ → ℕ → ℕ → ℕ → Option Hop → List Medium → Option Hop
pick_among t hops to from number best [] = best
pick_among t hops to from number best (m ∷ media) =
    pick_among t hops to from (number + 1)
    (if stands_at m from then pick_over t hops to number best m.stands else best) media
