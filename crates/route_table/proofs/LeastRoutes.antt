-- The computed routes are the least ones: they are chosen from all routes of this many hops.
use Rattle.std.proofs.Common.{
  ◌≡◌,
  ℕ,
  zero,
  suc,
  ◌+◌,
  ◌-◌,
  ◌*◌,
  ◌<◌,
  ◌≤◌,
  Bool,
  true,
  false,
  cond,
  ◌||◌,
  ◌==◌,
  List,
  [],
  ◌∷◌,
  ◌++◌,
  map,
  length,
  Some,
  refl,
  sym,
  ap,
  subst,
  arith,
  ◌∙◌,
  ◌⊎◌,
  inl,
  inr,
  length-append,
}
use Rattle.std.specs.Prelude.{Contains, slice_get, slice_index_or, nat_eq}
use Rattle.std.specs.List.{flat_map, list_any, range_with_len}
use Rattle.std.proofs.lemmas.Bool.{eqb-true, eq-eqb}
use Rattle.std.proofs.lemmas.List.{get_or_append_left, get_or-append_right}
use Rattle.std.proofs.lemmas.List.FromFn.{get_or-map-range_with_len, length-map-range_with_len}
use Rattle.archi_graph.specs.declared.medium.Medium.{Medium}
use Rattle.archi_graph.specs.declared.medium.Hop.{Hop}
use Rattle.archi_graph.specs.Archi.{Architecture, stands_at}
use Rattle.archi_graph.specs.Routes.{IsHop, IsRoute}
use Rattle.route_table.specs.Least.{is_less, IsLeastRoute}
use Rattle.route_table.specs.Table.{level_in, route_in}
use Rattle.route_table.proofs.Joined.{all_joined, facts, route_on}
use Rattle.route_table.proofs.Order.{less_not, less_self, less_turned, longer_is_not_less, not_less_is_no_shorter}
use Rattle.route_table.proofs.Picks.{some_and, some_with, stands_of}
use Rattle.route_table.specs.Computed.{hops_over, hops_from, stay, routes_within, lesser, least_among, or_no_hop, least_route, table_of, RoutesAreLeast}

-- an element of a list
abbrev IsIn : {A : Type 0} → List A → A → Type 0
IsIn [] x = ⊥
IsIn (y ∷ ys) x = (y ≡ x) ⊎ IsIn ys x

module _ {A : Type 0} where
  in_left : (xs ys : List A) (x : A) → IsIn xs x → IsIn (xs ++ ys) x
  in_left [] ys x h = absurd h
  in_left (z ∷ xs) ys x (inl e) = inl e
  in_left (z ∷ xs) ys x (inr h) = inr (in_left xs ys x h)

  in_right : (xs ys : List A) (x : A) → IsIn ys x → IsIn (xs ++ ys) x
  in_right [] ys x h = h
  in_right (z ∷ xs) ys x h = inr (in_right xs ys x h)

  in_either : (xs ys : List A) (x : A) → IsIn (xs ++ ys) x → IsIn xs x ⊎ IsIn ys x
  in_either [] ys x h = inr h
  in_either (z ∷ xs) ys x (inl e) = inl (inl e)
  in_either (z ∷ xs) ys x (inr h) = elim (in_either xs ys x h) [
    | inl k ↦ inl (inr k)
    | inr k ↦ inr k
  ]

module _ {A B : Type 0} where
  in_map : (f : A → B) (xs : List A) (x : A) → IsIn xs x → IsIn (map f xs) (f x)
  in_map f [] x h = absurd h
  in_map f (z ∷ xs) x (inl e) = inl (ap f e)
  in_map f (z ∷ xs) x (inr h) = inr (in_map f xs x h)

  of_map : (f : A → B) (xs : List A) (y : B) → IsIn (map f xs) y → (x : A) × IsIn xs x × (f x ≡ y)
  of_map f [] y h = absurd h
  of_map f (z ∷ xs) y (inl e) = (z, inl refl, e)
  of_map f (z ∷ xs) y (inr h) = let r = of_map f xs y h in (r.0, inr r.1, r.2)

  in_flat : (f : A → List B) (xs : List A) (x : A) (y : B) → IsIn xs x → IsIn (f x) y → IsIn (flat_map f xs) y
  in_flat f [] x y h k = absurd h
  in_flat f (z ∷ xs) x y (inl e) k = in_left (f z) (flat_map f xs) y (subst (λ (v : A). IsIn (f v) y) (sym e) k)
  in_flat f (z ∷ xs) x y (inr h) k = in_right (f z) (flat_map f xs) y (in_flat f xs x y h k)

  of_flat : (f : A → List B) (xs : List A) (y : B) → IsIn (flat_map f xs) y → (x : A) × IsIn xs x × IsIn (f x) y
  of_flat f [] y h = absurd h
  of_flat f (z ∷ xs) y h = elim (in_either (f z) (flat_map f xs) y h) [
    | inl k ↦ (z, inl refl, k)
    | inr k ↦ let r = of_flat f xs y k in (r.0, inr r.1, r.2)
  ]

in_contained : (xs : List ℕ) (x k : ℕ) → k < length xs → slice_index_or xs k x ≡ x → IsIn xs x
in_contained [] x k l e = absurd (omega (arith, l))
in_contained (y ∷ xs) x zero l e = inl e
in_contained (y ∷ xs) x (suc k) l e = inr (in_contained xs x k (omega (arith, l)) e)

contained : (xs : List ℕ) (x : ℕ) → IsIn xs x → Contains xs x
contained [] x h = absurd h
contained (y ∷ xs) x (inl e) = (0, omega arith, e)
contained (y ∷ xs) x (inr h) = let r = contained xs x h in (suc r.0, omega (arith, r.1), r.2)

any_here : (x y : Bool) → x ≡ true → (x || y) ≡ true
any_here true y e = refl
any_here false y e = cc

any_later : (x y : Bool) → y ≡ true → (x || y) ≡ true
any_later true y e = refl
any_later false y e = e

stands_where : (xs : List ℕ) (o : ℕ) → IsIn xs o → list_any (nat_eq o) xs ≡ true
stands_where [] o h = absurd h
stands_where (x ∷ xs) o (inl e) = any_here (nat_eq o x) (list_any (nat_eq o) xs) (eq-eqb o x (sym e))
stands_where (x ∷ xs) o (inr h) = any_later (nat_eq o x) (list_any (nat_eq o) xs) (stands_where xs o h)

-- what a condition lets through
if_true : {A : Type 0} (b : Bool) (xs : List A) (x : A) → b ≡ true → IsIn xs x → IsIn (cond b xs []) x
if_true true xs x e h = h
if_true false xs x e h = absurd cc

if_in : {A : Type 0} (b : Bool) (xs : List A) (x : A) → IsIn (cond b xs []) x → (b ≡ true) × IsIn xs x
if_in true xs x h = (refl, h)
if_in false xs x h = absurd h

abbrev hop : ℕ → ℕ → Hop
hop number o = record { medium = number; to = o }

module _ (from to : ℕ) where
  -- a hop over a medium at which both stand
  in_hops : (media : List Medium) (k i n : ℕ) (m : Medium) → slice_get media i ≡ Some m → k + i ≡ n → Contains m.stands from → Contains m.stands to
      → IsIn (hops_from from k media) (record { medium = n; to = to })
  in_hops [] k i n m at e f t = absurd cc
  in_hops (x ∷ media) k zero n m at e f t =
      let same : m ≡ x = cc in
      let number : k ≡ n = omega (arith, e) in
      let near : IsIn x.stands from = subst (λ (y : Medium). IsIn y.stands from) same (in_contained m.stands from f.0 f.1 f.2) in
      let far : IsIn x.stands to = subst (λ (y : Medium). IsIn y.stands to) same (in_contained m.stands to t.0 t.1 t.2) in
      let over : IsIn (hops_over k x.stands) (record { medium = k; to = to }) = in_map (λ (o : ℕ). record { medium = k; to = o }) x.stands to far in
      subst (λ (j : ℕ). IsIn (hops_from from k (x ∷ media)) (record { medium = j; to = to })) number
      (in_left (cond (stands_at x from) (hops_over k x.stands) []) (hops_from from (suc k) media) (record { medium = k; to = to })
      (if_true (stands_at x from) (hops_over k x.stands) (record { medium = k; to = to }) (stands_where x.stands from near) over))
  in_hops (x ∷ media) k (suc i) n m at e f t =
      in_right (cond (stands_at x from) (hops_over k x.stands) []) (hops_from from (suc k) media) (record { medium = n; to = to }) (in_hops media (suc k) i n m at (omega (arith, e)) f t)

module _ (from : ℕ) where
  of_hops : (media : List Medium) (k : ℕ) (h : Hop) → IsIn (hops_from from k media) h
      → (i : ℕ) × (k + i ≡ h.medium) × (m : Medium) × (slice_get media i ≡ Some m) × Contains m.stands from × Contains m.stands h.to
  of_hops [] k h q = absurd q
  of_hops (x ∷ media) k h q = elim (in_either (cond (stands_at x from) (hops_over k x.stands) []) (hops_from from (suc k) media) h q) [
    | inl here ↦
        let r = if_in (stands_at x from) (hops_over k x.stands) h here in
        let o = of_map (λ (o : ℕ). hop k o) x.stands h r.1 in
        let e : k ≡ h.medium = ap (λ (g : Hop). g.medium) o.2 in
        let number : k + 0 ≡ h.medium = omega (arith, e) in
        (0, number, x, refl, stands_of from x.stands r.0, subst (λ (p : ℕ). Contains x.stands p) (ap (λ (g : Hop). g.to) o.2) (contained x.stands o.0 o.1))
    | inr later ↦
        let r = of_hops media (suc k) h later in
        (suc r.0, (let e = r.1 in omega (arith, e)), r.2, r.3, r.4, r.5)
  ]

module _ (media : List Medium) where
  in_hops_from : (from : ℕ) (h : Hop) → IsHop media from h → IsIn (hops_from from 0 media) h
  in_hops_from from h is =
      let m = some_and (slice_get media h.medium) (λ x. Contains x.stands from × Contains x.stands h.to) is in
      in_hops from h.to media 0 h.medium h.medium m.0 m.1 (omega arith) m.2.0 m.2.1

  hop_of : (from : ℕ) (h : Hop) → IsIn (hops_from from 0 media) h → IsHop media from h
  hop_of from h q =
      let r = of_hops from media 0 h q in
      let same : r.0 ≡ h.medium = let e = r.1 in omega (arith, e) in
      some_with (slice_get media h.medium) (λ x. Contains x.stands from × Contains x.stands h.to) r.2
      (subst (λ (i : ℕ). slice_get media i ≡ Some r.2) same r.3) (r.4, r.5)

  in_stay : (from to : ℕ) → from ≡ to → IsIn (stay from to) []
  in_stay from to e = if_true (from == to) ([] ∷ []) [] (eq-eqb from to e) (inl refl)

  of_stay : (from to : ℕ) (r : List Hop) → IsIn (stay from to) r → IsRoute media from r to
  of_stay from to r h = let q = if_in (from == to) ([] ∷ []) r h in by (eqb-true from to q.0) q.1
    where
      by : from ≡ to → IsIn ([] ∷ []) r → IsRoute media from r to
      by same (inl e) = subst (λ (s : List Hop). IsRoute media from s to) e same
      by same (inr k) = absurd k

  -- all routes of this many hops are there, and nothing else
  in_routes : (hops from to : ℕ) (r : List Hop) → IsRoute media from r to → length r ≤ hops → IsIn (routes_within media hops from to) r
  in_routes zero from to [] route l = in_stay from to route
  in_routes zero from to (h ∷ r) route l = absurd (omega (arith, l))
  in_routes (suc hops) from to [] route l =
      in_left (stay from to) (flat_map (λ g. map (λ s. g ∷ s) (routes_within media hops g.to to)) (hops_from from 0 media)) [] (in_stay from to route)
  in_routes (suc hops) from to (h ∷ r) route l =
      in_right (stay from to) (flat_map (λ g. map (λ s. g ∷ s) (routes_within media hops g.to to)) (hops_from from 0 media)) (h ∷ r)
      (in_flat (λ g. map (λ s. g ∷ s) (routes_within media hops g.to to)) (hops_from from 0 media) h (h ∷ r) (in_hops_from from h route.0)
      (in_map (λ s. h ∷ s) (routes_within media hops h.to to) r (in_routes hops h.to to r route.1 (omega (arith, l)))))

  of_routes : (hops from to : ℕ) (r : List Hop) → IsIn (routes_within media hops from to) r → IsRoute media from r to
  of_routes zero from to r q = of_stay from to r q
  of_routes (suc hops) from to r q =
      elim (in_either (stay from to) (flat_map (λ g. map (λ s. g ∷ s) (routes_within media hops g.to to)) (hops_from from 0 media)) r q) [
        | inl here ↦ of_stay from to r here
        | inr later ↦
            let h = of_flat (λ g. map (λ s. g ∷ s) (routes_within media hops g.to to)) (hops_from from 0 media) r later in
            let s = of_map (λ s. h.0 ∷ s) (routes_within media hops h.0.to to) r h.2 in
            subst (λ (t : List Hop). IsRoute media from t to) s.2 (hop_of from h.0 h.1, of_routes hops h.0.to to s.0 s.1)
      ]

-- it is in the list, and no other one is less
abbrev IsLeastIn : List (List Hop) → List Hop → Type 0
IsLeastIn rs y = IsIn rs y × ((o : List Hop) → IsIn rs o → is_less o y ≡ false)

-- one route before a list, of which this one is the least
module _ (r t : List Hop) (rs : List (List Hop)) (below : IsLeastIn rs t) where
  later_less : is_less t r ≡ true → (o : List Hop) → IsIn (r ∷ rs) o → is_less o t ≡ false
  later_less e o (inl same) = subst (λ (p : List Hop). is_less p t ≡ false) same (less_turned t r e)
  later_less e o (inr k) = below.1 o k

  first_less : is_less t r ≡ false → (o : List Hop) → IsIn (r ∷ rs) o → is_less o r ≡ false
  first_less e o (inl same) = subst (λ (p : List Hop). is_less p r ≡ false) same (less_self r)
  first_less e o (inr k) = less_not o t r (below.1 o k) e

  either : (b : Bool) → is_less t r ≡ b → IsLeastIn (r ∷ rs) (cond b t r)
  either true e = (inr below.0, later_less e)
  either false e = (inl refl, first_less e)

least_in : (r : List Hop) (rs : List (List Hop)) → IsLeastIn (r ∷ rs) (lesser r (least_among rs))
least_in r [] = (inl refl, alone)
  where
    alone : (o : List Hop) → IsIn (r ∷ []) o → is_less o r ≡ false
    alone o (inl e) = subst (λ (p : List Hop). is_less p r ≡ false) e (less_self r)
    alone o (inr k) = absurd k
least_in r (s ∷ rs) = either r (lesser s (least_among rs)) (s ∷ rs) (least_in s rs) (is_less (lesser s (least_among rs)) r) refl

some_least : (rs : List (List Hop)) (r : List Hop) → IsIn rs r → IsLeastIn rs (or_no_hop (least_among rs))
some_least [] r q = absurd q
some_least (s ∷ rs) r q = least_in s rs

-- where some route has so few hops, the least of those with so few is the least of all
least_of_all : (media : List Medium) (hops from to : ℕ) (r y : List Hop) → IsRoute media from r to → length r ≤ hops → IsLeastIn (routes_within media hops from to) y → IsLeastRoute media from y to
least_of_all media hops from to r y route few found = record { route = of_routes media hops from to y found.0; least = λ other there. by other there (short_or_long (length other) hops) }
  where
    no_longer : length y ≤ length r
    no_longer = not_less_is_no_shorter r y (found.1 r (in_routes media hops from to r route few))

    short_or_long : (m n : ℕ) → (m ≤ n) ⊎ (suc n ≤ m)
    short_or_long m n = grind arith

    by : (other : List Hop) → IsRoute media from other to → (length other ≤ hops) ⊎ (suc hops ≤ length other) → is_less other y ≡ false
    by other there (inl short) = found.1 other (in_routes media hops from to other there short)
    by other there (inr long) = longer_is_not_less other y (let n = no_longer in omega (arith, long, n, few))

is_least : (media : List Medium) (hops from to : ℕ) (r : List Hop) → IsRoute media from r to → length r ≤ hops → IsLeastRoute media from (least_route media hops from to) to
is_least media hops from to r route few =
    least_of_all media hops from to r (least_route media hops from to) route few (some_least (routes_within media hops from to) r (in_routes media hops from to r route few))

-- rows of one length, one after the other
module _ (f : ℕ → ℕ → List Hop) (n : ℕ) where
  abbrev row : ℕ → List (List Hop)
  row i = map (f i) (range_with_len 0 n)

  rows_length : (a rows : ℕ) → length (flat_map row (range_with_len a rows)) ≡ rows * n
  rows_length a zero = let z : 0 * n ≡ 0 = grind arith in sym z
  rows_length a (suc rows) =
      let more : suc rows * n ≡ n + rows * n = grind arith in
      let first = length-map-range_with_len (f a) 0 n in
      let rest = rows_length (a + 1) rows in
      let both = length-append (row a) (flat_map row (range_with_len (a + 1) rows)) in
      omega (arith, more, first, rest, both)

  at_row : (a rows from to : ℕ) → from < rows → to < n → slice_index_or (flat_map row (range_with_len a rows)) (from * n + to) [] ≡ f (a + from) to
  at_row a zero from to l k = absurd (omega (arith, l))
  at_row a (suc rows) zero to l k =
      let place : 0 * n + to ≡ to = grind arith in
      let first = length-map-range_with_len (f a) 0 n in
      let here : a ≡ a + 0 = omega arith in
      ap (λ (i : ℕ). slice_index_or (row a ++ flat_map row (range_with_len (a + 1) rows)) i []) place
      ∙ get_or_append_left (row a) (flat_map row (range_with_len (a + 1) rows)) [] to (omega (arith, first, k))
      ∙ get_or-map-range_with_len (f a) 0 n to to [] k (omega arith)
      ∙ ap (λ (i : ℕ). f i to) here
  at_row a (suc rows) (suc from) to l k =
      let first = length-map-range_with_len (f a) 0 n in
      let more : suc from * n ≡ n + from * n = grind arith in
      let after : suc from * n + to - n ≡ from * n + to = omega (arith, more) in
      let here : a + 1 + from ≡ a + suc from = omega arith in
      get_or-append_right (row a) (flat_map row (range_with_len (a + 1) rows)) n (suc from * n + to) [] first (omega (arith, more))
      ∙ ap (λ (i : ℕ). slice_index_or (flat_map row (range_with_len (a + 1) rows)) i []) after
      ∙ at_row (a + 1) rows from to (omega (arith, l)) k
      ∙ ap (λ (i : ℕ). f i to) here

module _ (a : Architecture) where
  abbrev route : ℕ → ℕ → List Hop
  route from to = least_route a.media (2 * length a.operators) from to

  at_place : (from to : ℕ) → from < length a.operators → to < length a.operators → route_in (table_of a) from to ≡ route from to
  at_place from to l k =
      let from_here : 0 + from ≡ from = omega arith in
      at_row route (length a.operators) 0 (length a.operators) from to l k ∙ ap (λ (i : ℕ). route i to) from_here

pub routes_are_least : RoutesAreLeast
routes_are_least a valid = record {
  operators = refl;
  there = rows_length (route a) (length a.operators) 0 (length a.operators);
  least = all;
  levels = λ from near far h lf ln e lh is. one_more from near far h lf ln e lh is;
}
  where
    all : (from to : ℕ) → from < length a.operators → to < length a.operators → IsLeastRoute a.media from (route_in (table_of a) from to) to
    all from to l k =
        let r = all_joined (length a.operators) a.media (facts a valid).joined from to l k in
        subst (λ (s : List Hop). IsLeastRoute a.media from s to) (sym (at_place a from to l k)) (is_least a.media (2 * length a.operators) from to r.0 r.1 r.2)

    one_more : (from near far : ℕ) (h : Hop) → from < length a.operators → near < length a.operators → h.to ≡ far → far < length a.operators → IsHop a.media near h
        → level_in (table_of a) from far ≤ level_in (table_of a) from near + 1
    one_more from near far h lf ln e lh is =
        let last : IsRoute a.media near (h ∷ []) far = (is, e) in
        let long = route_on a.media from near far (route_in (table_of a) from near) (h ∷ []) (all from near lf ln).route last in
        let no_less = not_less_is_no_shorter (route_in (table_of a) from near ++ h ∷ []) (route_in (table_of a) from far)
        ((all from far lf lh).least (route_in (table_of a) from near ++ h ∷ []) long) in
        let d : length (route_in (table_of a) from near ++ h ∷ []) ≡ level_in (table_of a) from near + 1 = length-append (route_in (table_of a) from near) (h ∷ []) in
        omega (arith, no_less, d)
