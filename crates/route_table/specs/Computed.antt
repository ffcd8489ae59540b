-- The least routes of an architecture, computed: of all routes of this many hops, the least one.
use Rattle.std.specs.Prelude.{
  ℕ,
  zero,
  suc,
  ◌*◌,
  ◌==◌,
  if◌then◌else◌,
  IsTrue,
  List,
  [],
  ◌∷◌,
  ◌++◌,
  map,
  length,
  Option,
  Some,
  None,
}
use Rattle.std.specs.List.{flat_map, range_with_len}
use Rattle.archi_graph.specs.declared.medium.Medium.{Medium}
use Rattle.archi_graph.specs.declared.medium.Hop.{Hop}
use Rattle.archi_graph.specs.Archi.{Architecture, is_archi, stands_at}
use Rattle.route_table.specs.Least.{is_less}
use Rattle.route_table.specs.Table.{RouteTable, IsTableOf}

-- the hops over the medium of this number to the operators that stand at it
abbrev pub hops_over : ℕ → List ℕ → List Hop
hops_over number stands = map (λ o. record { medium = number; to = o }) stands

-- the hops from an operator over media that are numbered from this number on
abbrev pub hops_from : ℕ → ℕ → List Medium → List Hop
hops_from from number [] = []
hops_from from number (m ∷ media) =
    (if stands_at m from then hops_over number m.stands else []) ++ hops_from from (suc number) media

-- from an operator to itself there is a route without a hop
abbrev pub stay : ℕ → ℕ → List (List Hop)
stay from to = if from == to then [] ∷ [] else []

module _ (media : List Medium) where
  -- the routes of at most this many hops from an operator to another
  abbrev pub routes_within : ℕ → ℕ → ℕ → List (List Hop)
  routes_within zero from to = stay from to
  routes_within (suc hops) from to =
      stay from to ++ flat_map (λ h. map (λ r. h ∷ r) (routes_within hops h.to to)) (hops_from from 0 media)

-- the second route, where it is there and less
abbrev pub lesser : List Hop → Option (List Hop) → List Hop
lesser r None = r
lesser r (Some s) = if is_less s r then s else r

-- The least of these routes, none if there are none.
abbrev pub least_among : List (List Hop) → Option (List Hop)
least_among [] = None
least_among (r ∷ rs) = Some (lesser r (least_among rs))

-- The route, or one without a hop if there is none.
abbrev pub or_no_hop : Option (List Hop) → List Hop
or_no_hop None = []
or_no_hop (Some r) = r

-- The least route of at most this many hops from an operator to another; one without a hop if no
-- route has so few.
abbrev pub least_route : List Medium → ℕ → ℕ → ℕ → List Hop
least_route media hops from to = or_no_hop (least_among (routes_within media hops from to))

-- The least route from this operator to each operator, in their order. Twice as many hops as there
-- are operators are enough, since any two of them are joined by way of operator 0.
abbrev pub routes_from : Architecture → ℕ → List (List Hop)
routes_from a from = map (least_route a.media (2 * length a.operators) from) (range_with_len 0 (length a.operators))

-- The table of an architecture: for each pair of operators the least route.
abbrev pub table_of : Architecture → RouteTable
table_of a = record {
  operators = length a.operators;
  routes = flat_map (routes_from a) (range_with_len 0 (length a.operators));
}

-- it is the table of the architecture, which has each least route
abbrev pub RoutesAreLeast : Type 0
RoutesAreLeast = (a : Architecture) → IsTrue (is_archi a.operators a.media) → IsTableOf a (table_of a)
