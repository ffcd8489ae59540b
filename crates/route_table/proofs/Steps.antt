-- One round more: what a table has of routes of this many hops, and of one hop more.
use Rattle.std.proofs.Common.{◌≡◌, ℕ, zero, suc, ◌+◌, ◌<◌, ◌≤◌, ◌≢◌, Bool, true, false, ◌||◌, ◌==◌, List, [], ◌∷◌, length, Option, Some, None, sym, ap, subst, arith, ◌∙◌, ◌⊎◌, inl, inr}
use Rattle.std.specs.Prelude.{All, Contains, slice_get, nat_lt}
use Rattle.std.proofs.lemmas.Bool.{and_parts, and_from, eqb-true, eq-eqb}
use Rattle.std.proofs.lemmas.Bool.Decides.{nat_tests, eqb_tells}
use Rattle.archi_graph.specs.declared.medium.Medium.{Medium}
use Rattle.archi_graph.specs.declared.medium.Hop.{Hop}
use Rattle.archi_graph.specs.Routes.{AreOperators, IsHop, IsRoute}
use Rattle.route_table.specs.Least.{is_less, IsLeastRoute}
use Rattle.route_table.specs.Table.{RouteTable, route_in, level_in}
use Rattle.route_table.specs.Search.{is_known, is_at, through, pick_among}
use Rattle.route_table.specs.Known.{Covers, Grows, IsKnownWithin}
use Rattle.route_table.proofs.Order.{less_not, less_self, less_after, longer_is_not_less, not_less_is_no_shorter}
use Rattle.route_table.proofs.Picks.{Beats, IsFrom, some_and, chosen_beats, chosen_from}

-- a hop leads to an operator
pub hop_below : (n : ℕ) (media : List Medium) (from : ℕ) (h : Hop) → AreOperators n media → IsHop media from h → h.to < n
hop_below n media from h known hop =
    let m = some_and (slice_get media h.medium) (λ x. Contains x.stands from × Contains x.stands h.to) hop in
    stands_below media h.medium m.0 known m.1 m.2.1
  where
    stands_below : (ms : List Medium) (k : ℕ) (m : Medium) → AreOperators n ms → slice_get ms k ≡ Some m → Contains m.stands h.to → h.to < n
    stands_below [] k m all e c = absurd (cc)
    stands_below (x ∷ ms) zero m all e c =
        let same : x ≡ m = cc in
        let below : All (λ o. o < n) m.stands = subst (λ (y : Medium). All (λ o. o < n) y.stands) same (all 0 x (omega arith)) in
        subst (λ (o : ℕ). o < n) c.2 (below c.0 h.to c.1)
    stands_below (x ∷ ms) (suc k) m all e c = stands_below ms k m (λ j d l. all (suc j) d (omega arith)) e c

-- what is known without a hop is the operator itself
not_known : (from to l : ℕ) → ((from == to) || nat_lt 0 l) ≡ false → from ≢ to
not_known from to l e = grind (arith, nat_tests)

longer_is_known : (from to l : ℕ) → 0 < l → ((from == to) || nat_lt 0 l) ≡ true
longer_is_known from to l h = grind (arith, nat_tests)

true_not_false : (b : Bool) → b ≡ true → b ≡ false → ⊥
true_not_false b e f = cc

-- what is known of a hop's end, where the hop's start has no route of so few hops
module _ (media : List Medium) (t : RouteTable) (hops from to : ℕ) (places : (from < t.operators) × (to < t.operators)) (known : AreOperators t.operators media)
    (so_far : IsKnownWithin media t hops) (absent : is_known t from to ≡ false) where
  -- a hop to an operator from which some route has so few hops leads to a least route of exactly this many
  at_end : (h : Hop) (r : List Hop) → IsHop media from h → IsRoute media h.to r to → length r ≤ hops
      → (is_at t hops h.to to ≡ true) × (is_less r (route_in t h.to to) ≡ false)
  at_end h r hop rest l =
      let below = hop_below t.operators media from h known hop in
      let there = so_far.covers h.to to below places.1 r rest l in
      let least = so_far.least h.to to below places.1 there in
      let no_less = least.least r rest in
      let shorter = not_less_is_no_shorter r (route_in t h.to to) no_less in
      let exact : level_in t h.to to ≡ hops = by (hop_or_more (level_in t h.to to) hops) (λ less. so_far.covers from to places.0 places.1 (through t to h) (hop, least.route) less) shorter in
      (and_from (is_known t h.to to) (level_in t h.to to == hops) there (eq-eqb (level_in t h.to to) hops exact), no_less)
    where
      hop_or_more : (m n : ℕ) → (suc m ≤ n) ⊎ (n ≤ m)
      hop_or_more m n = grind arith

      by : (suc (level_in t h.to to) ≤ hops) ⊎ (hops ≤ level_in t h.to to) → (suc (level_in t h.to to) ≤ hops → is_known t from to ≡ true) → level_in t h.to to ≤ length r → level_in t h.to to ≡ hops
      by (inl less) short s = absurd (true_not_false (is_known t from to) (short less) absent)
      by (inr more) short s = omega arith

  -- where no hop is chosen, no route has one hop more
  pub none_longer : pick_among t hops to from 0 None media ≡ None → Covers media t (hops + 1) from to
  none_longer e [] route l = absurd (not_known from to (level_in t from to) absent route)
  none_longer e (h ∷ r) route l =
      let end = at_end h r route.0 route.1 (omega arith) in
      absurd (subst (λ (o : Option Hop). Beats t to o h) e (chosen_beats t hops to from media h route.0 end.0))

  -- the route through the chosen hop is the least one
  pub chosen_is_least : (c : Hop) → pick_among t hops to from 0 None media ≡ Some c → IsLeastRoute media from (through t to c) to
  chosen_is_least c e = record {
    route = (origin.0, there.route);
    least = λ other route. no_less other route (which (length other) (suc hops));
  }
    where
      origin : IsHop media from c × (is_at t hops c.to to ≡ true)
      origin = subst (λ (o : Option Hop). IsFrom t hops to (IsHop media from) o) e (chosen_from t hops to from media)

      parts : (is_known t c.to to ≡ true) × ((level_in t c.to to == hops) ≡ true)
      parts = and_parts (is_known t c.to to) (level_in t c.to to == hops) origin.1

      there : IsLeastRoute media c.to (route_in t c.to to) to
      there = so_far.least c.to to (hop_below t.operators media from c known origin.0) places.1 parts.0

      long : level_in t c.to to ≡ hops
      long = eqb-true (level_in t c.to to) hops parts.1

      which : (m n : ℕ) → (m ≤ n) ⊎ (n < m)
      which m n = grind arith

      no_less : (other : List Hop) → IsRoute media from other to → (length other ≤ suc hops) ⊎ (suc hops < length other) → is_less other (through t to c) ≡ false
      no_less other route (inr longer) = longer_is_not_less other (through t to c) (let l : length (through t to c) ≡ suc hops = ap suc long in omega arith)
      no_less [] route (inl l) = absurd (not_known from to (level_in t from to) absent route)
      no_less (h ∷ r) route (inl l) =
          let end = at_end h r route.0 route.1 (omega arith) in
          let beats : is_less (through t to h) (through t to c) ≡ false = subst (λ (o : Option Hop). Beats t to o h) e (chosen_beats t hops to from media h route.0 end.0) in
          less_not (h ∷ r) (through t to h) (through t to c) (less_after h r (route_in t h.to to) ∙ end.1) beats

-- the same place, or another one
abbrev IsHere : ℕ → ℕ → ℕ → ℕ → Type 0
IsHere from to o d = ((o ≡ from) × (d ≡ to)) ⊎ ((o ≢ from) ⊎ (d ≢ to))

here_or_not : (from to o d : ℕ) → IsHere from to o d
here_or_not from to o d = by (eqb_tells o from) (eqb_tells d to)
  where
    by : (((o == from) ≡ true) × (o ≡ from)) ⊎ (((o == from) ≡ false) × (o ≢ from)) → (((d == to) ≡ true) × (d ≡ to)) ⊎ (((d == to) ≡ false) × (d ≢ to)) → IsHere from to o d
    by (inl a) (inl b) = inl (a.1, b.1)
    by (inr a) b = inr (inl a.1)
    by (inl a) (inr b) = inr (inr b.1)

-- a write of a least route
module _ (media : List Medium) (t u : RouteTable) (hops from to : ℕ) (c : Hop) (places : (from < t.operators) × (to < t.operators))
    (so_far : IsKnownWithin media t hops) (least : IsLeastRoute media from (through t to c) to) (same : u.operators ≡ t.operators)
    (size : length u.routes ≡ length t.routes) (put : route_in u from to ≡ through t to c)
    (others : (o d : ℕ) → o < t.operators → d < t.operators → (o ≢ from) ⊎ (d ≢ to) → route_in u o d ≡ route_in t o d) where
  there_now : is_known u from to ≡ true
  there_now = let l : length (route_in u from to) ≡ length (through t to c) = ap (λ r. length r) put in longer_is_known from to (level_in u from to) (omega arith)

  pub put_covers : Covers media u (hops + 1) from to
  put_covers r route l = there_now

  pub put_grows : Grows t u
  put_grows = (same, size, λ o d lo ld known. by o d lo ld known (here_or_not from to o d))
    where
      by : (o d : ℕ) → o < t.operators → d < t.operators → is_known t o d ≡ true → IsHere from to o d → is_known u o d ≡ true
      by o d lo ld known (inl here) = rw (here.0, here.1) there_now
      by o d lo ld known (inr apart) = ap (λ (r : List Hop). (o == d) || nat_lt 0 (length r)) (others o d lo ld apart) ∙ known

  pub put_keeps : IsKnownWithin media u hops
  put_keeps = record {
    least = λ o d lo ld known. by o d (below o lo) (below d ld) known (here_or_not from to o d);
    covers = λ o d lo ld r route l. put_grows.2 o d (below o lo) (below d ld) (so_far.covers o d (below o lo) (below d ld) r route l);
  }
    where
      below : (o : ℕ) → o < u.operators → o < t.operators
      below o l = subst (λ (n : ℕ). o < n) same l

      by : (o d : ℕ) → o < t.operators → d < t.operators → is_known u o d ≡ true → IsHere from to o d → IsLeastRoute media o (route_in u o d) d
      by o d lo ld known (inl here) = rw (here.0, here.1, put) least
      by o d lo ld known (inr apart) =
          let e = others o d lo ld apart in
          subst (λ (r : List Hop). IsLeastRoute media o r d) (sym e)
          (so_far.least o d lo ld (ap (λ (r : List Hop). (o == d) || nat_lt 0 (length r)) (sym e) ∙ known))

-- the route from where the chosen hop leads has this many hops
pub chosen_level : (media : List Medium) (t : RouteTable) (hops from to : ℕ) (c : Hop) → pick_among t hops to from 0 None media ≡ Some c → level_in t c.to to ≡ hops
chosen_level media t hops from to c e =
    let origin : IsHop media from c × (is_at t hops c.to to ≡ true) = subst (λ (o : Option Hop). IsFrom t hops to (IsHop media from) o) e (chosen_from t hops to from media) in
    eqb-true (level_in t c.to to) hops (and_parts (is_known t c.to to) (level_in t c.to to == hops) origin.1).1

-- a table that has grown has what it had
pub covers_on : (media : List Medium) (t u : RouteTable) (hops from to : ℕ) → Grows t u → (from < t.operators) × (to < t.operators) → Covers media t hops from to → Covers media u hops from to
covers_on media t u hops from to grows places covers r route l = grows.2 from to places.0 places.1 (covers r route l)

pub grows_on : (t u v : RouteTable) → Grows t u → Grows u v → Grows t v
grows_on t u v g h =
    (h.0 ∙ g.0, h.1 ∙ g.1, λ from to l k known. h.2 from to (subst (λ (n : ℕ). from < n) (sym g.0) l) (subst (λ (n : ℕ). to < n) (sym g.0) k) (g.2 from to l k known))

-- all operators done, the table has the routes of one hop more
pub one_hop_more : (media : List Medium) (t : RouteTable) (hops : ℕ) → IsKnownWithin media t hops
    → ((from to : ℕ) → from < t.operators → to < t.operators → Covers media t (hops + 1) from to) → IsKnownWithin media t (hops + 1)
one_hop_more media t hops so_far all = record { least = so_far.least; covers = all }

-- a table with no hop at all has the routes of no hop
pub none_at_first : (media : List Medium) (t : RouteTable) → ((from to : ℕ) → route_in t from to ≡ []) → IsKnownWithin media t 0
none_at_first media t empty = record {
  least = λ from to l k known. rw (empty from to) (own from to (by_itself from to (ap (λ (r : List Hop). (from == to) || nat_lt 0 (length r)) (sym (empty from to)) ∙ known)));
  covers = λ from to l k r route short. covered from to r route short;
}
  where
    by_itself : (from to : ℕ) → ((from == to) || nat_lt 0 0) ≡ true → from ≡ to
    by_itself from to e = grind (arith, nat_tests)

    own : (from to : ℕ) → from ≡ to → IsLeastRoute media from [] to
    own from to e = record { route = e; least = λ other route. no_less other }
      where
        no_less : (other : List Hop) → is_less other [] ≡ false
        no_less [] = less_self []
        no_less (h ∷ r) = longer_is_not_less (h ∷ r) [] (omega arith)

    covered : (from to : ℕ) (r : List Hop) → IsRoute media from r to → length r ≤ 0 → is_known t from to ≡ true
    covered from to [] route short = same_is_known from to (level_in t from to) route
      where
        same_is_known : (from to l : ℕ) → from ≡ to → ((from == to) || nat_lt 0 l) ≡ true
        same_is_known from to l e = grind (arith, nat_tests)
    covered from to (h ∷ r) route short = absurd (omega arith)
