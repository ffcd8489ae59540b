-- A table that has all routes of this many hops is the table of the architecture.
use Rattle.std.proofs.Common.{◌≡◌, ℕ, ◌+◌, ◌*◌, ◌<◌, ◌≤◌, [], ◌∷◌, ◌++◌, length, subst, arith, length-append}
use Rattle.archi_graph.specs.declared.medium.Hop.{Hop}
use Rattle.archi_graph.specs.Archi.{Architecture}
use Rattle.archi_graph.specs.Routes.{IsHop, IsRoute}
use Rattle.route_table.specs.Least.{IsLeastRoute}
use Rattle.route_table.specs.Table.{RouteTable, IsTableOf, route_in, level_in}
use Rattle.route_table.specs.Known.{IsKnownWithin}
use Rattle.route_table.proofs.Order.{not_less_is_no_shorter}
use Rattle.route_table.proofs.Joined.{Facts, all_joined, route_on}

pub table_done : (a : Architecture) (t : RouteTable) → Facts a → t.operators ≡ length a.operators → length t.routes ≡ t.operators * t.operators
    → IsKnownWithin a.media t (2 * length a.operators) → IsTableOf a t
table_done a t f same there done = record {
  operators = same;
  there = there;
  least = all;
  levels = λ from near far h lf ln e lh hop. one_more from near far h lf ln e lh hop;
}
  where
    below : (o : ℕ) → o < t.operators → o < length a.operators
    below o l = subst (λ (n : ℕ). o < n) same l

    all : (from to : ℕ) → from < t.operators → to < t.operators → IsLeastRoute a.media from (route_in t from to) to
    all from to l k =
        let r = all_joined (length a.operators) a.media f.joined from to (below from l) (below to k) in
        done.least from to l k (done.covers from to l k r.0 r.1 r.2)

    one_more : (from near far : ℕ) (h : Hop) → from < t.operators → near < t.operators → h.to ≡ far → far < t.operators → IsHop a.media near h → level_in t from far ≤ level_in t from near + 1
    one_more from near far h lf ln e lh hop =
        let last : IsRoute a.media near (h ∷ []) far = (hop, e) in
        let long = route_on a.media from near far (route_in t from near) (h ∷ []) (all from near lf ln).route last in
        let no_less = not_less_is_no_shorter (route_in t from near ++ h ∷ []) (route_in t from far) ((all from far lf lh).least (route_in t from near ++ h ∷ []) long) in
        let d : length (route_in t from near ++ h ∷ []) ≡ level_in t from near + 1 = length-append (route_in t from near) (h ∷ []) in
        omega (arith, no_less, d)
