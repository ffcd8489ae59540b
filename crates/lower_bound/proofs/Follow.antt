-- The code's way back along a longest chain, step by step.
use Rattle.std.proofs.Common.{◌≡◌, ℕ, zero, suc, ◌+◌, ◌-◌, ◌<◌, ◌≤◌, Bool, true, false, cond, nat_eq, List, [], ◌∷◌, ◌++◌, map, length, Option, Some, None, refl, sym, ap, subst, arith, inl, inr, ◌∙◌}
use Rattle.std.specs.Prelude.{nat_lt, slice_get, slice_index_or, IfSome}
use Rattle.std.specs.List.{list_all, range_with_len}
use Rattle.std.specs.Option.{option_or}
use Rattle.std.proofs.lemmas.Bool.{false≢true, and_parts, and_from, eq-eqb, ne_eqb, lt-ltb, ltb-true}
use Rattle.std.proofs.lemmas.List.{append_assoc, append-nil}
use Rattle.std.proofs.lemmas.Option.{slice_get_read}
use Rattle.self_timed.specs.declared.Vertex.{Vertex}
use Rattle.self_timed.specs.Graph.{with_vertex}
use Rattle.self_timed.specs.FlatOrder.{depends_on, get_half, is_acyclic, is_done}
use Rattle.lower_bound.specs.declared.links.Link.{Link}
use Rattle.lower_bound.specs.Bound.{all_operations, chain_to, least}
use Rattle.lower_bound.specs.Chain.{back_within, first_at, latest_of, link_of}
use Rattle.lower_bound.specs.Turns.{at}
use Rattle.lower_bound.proofs.Back.{back_none, needs_done}
use Rattle.lower_bound.proofs.Done.{all_done, done_within, same_where}
use Rattle.lower_bound.proofs.Whole.{list_is}
use Rattle.comm_routing.specs.Candidates.{needs_of}
use Rattle.syn_base.specs.Numbers.{greatest}

first_append : (dates : ℕ → ℕ) (date : ℕ) (us vs : List ℕ) → first_at dates date (us ++ vs) ≡ option_or (first_at dates date us) (first_at dates date vs)
first_append dates date [] vs = refl
first_append dates date (u ∷ us) vs = by (nat_eq (dates u) date) (first_append dates date us vs)
  where
    by : (b : Bool) → first_at dates date (us ++ vs) ≡ option_or (first_at dates date us) (first_at dates date vs)
        → cond b (Some u) (first_at dates date (us ++ vs)) ≡ option_or (cond b (Some u) (first_at dates date us)) (first_at dates date vs)
    by true e = refl
    by false e = e

-- the first of the guards' operations, else of the inputs', else the get half
pub before_is : (dates : ℕ → ℕ) (x : Vertex) (latest : ℕ) (guard source half : Option ℕ) → latest ≡ greatest (map dates (depends_on x))
    → guard ≡ first_at dates latest (map (λ g. g.source.vertex) x.guards)
    → source ≡ first_at dates latest (map (λ s. s.vertex) x.ins) → half ≡ first_at dates latest (get_half x.kind x.twin) → option_or (option_or guard source) half ≡ latest_of dates (depends_on x)
before_is dates x latest guard source half l g s h =
    let guards = map (λ g. g.source.vertex) x.guards in
    let ins = map (λ s. s.vertex) x.ins in
    let twin = get_half x.kind x.twin in
    (λ i. option_or (option_or (g i) (s i)) (h i))
    ∙ sym (first_append dates latest (guards ++ ins) twin
    ∙ ap (λ (o : Option ℕ). option_or o (first_at dates latest twin)) (first_append dates latest guards ins))
    ∙ ap (λ (n : ℕ). first_at dates n (depends_on x)) l

range_step : (a n : ℕ) → a < n → range_with_len a (n - a) ≡ a ∷ range_with_len (a + 1) (n - (a + 1))
range_step a n l = ap (range_with_len a) (let e : n - a ≡ suc (n - (a + 1)) = omega arith in e)

first_here : (dates : ℕ → ℕ) (date a n : ℕ) → a < n → nat_eq (dates a) date ≡ true → first_at dates date (range_with_len a (n - a)) ≡ Some a
first_here dates date a n l e = ap (first_at dates date) (range_step a n l) ∙ ap (λ (b : Bool). cond b (Some a) (first_at dates date (range_with_len (a + 1) (n - (a + 1))))) e

pub first_later : (dates : ℕ → ℕ) (date a n : ℕ) → a < n → (dates a ≡ date → ⊥) → first_at dates date (range_with_len a (n - a)) ≡ first_at dates date (range_with_len (a + 1) (n - (a + 1)))
first_later dates date a n l e = ap (first_at dates date) (range_step a n l) ∙ ap (λ (b : Bool). cond b (Some a) (first_at dates date (range_with_len (a + 1) (n - (a + 1))))) (ne_eqb (dates a) date e)

first_never : (dates : ℕ → ℕ) (date a n : ℕ) → n ≤ a → first_at dates date (range_with_len a (n - a)) ≡ None
first_never dates date a n l = ap (λ (k : ℕ). first_at dates date (range_with_len a k)) (let e : n - a ≡ 0 = omega arith in e)

greatest_listed : (dates : List ℕ) → greatest dates ≡ greatest (map (at dates) (range_with_len 0 (length dates)))
greatest_listed dates = ap greatest (list_is (at dates) 0 (length dates) dates refl (λ v l. ap (at dates) (let e : v ≡ 0 + v = omega arith in e)))

-- of all operations the first with the greatest date
pub found_here : (dates : List ℕ) (latest op : ℕ) → latest ≡ greatest dates → op < length dates
    → first_at (at dates) latest (range_with_len 0 (length dates)) ≡ first_at (at dates) latest (range_with_len op (length dates - op))
    → at dates op ≡ latest → Some op ≡ latest_of (at dates) (range_with_len 0 (length dates))
found_here dates latest op is l so_far e =
    sym (so_far ∙ first_here (at dates) latest op (length dates) l (eq-eqb (at dates op) latest e))
    ∙ ap (λ (n : ℕ). first_at (at dates) n (range_with_len 0 (length dates))) (is ∙ greatest_listed dates)

pub found_never : (dates : List ℕ) (latest op : ℕ) → latest ≡ greatest dates → length dates ≤ op
    → first_at (at dates) latest (range_with_len 0 (length dates)) ≡ first_at (at dates) latest (range_with_len op (length dates - op))
    → None ≡ latest_of (at dates) (range_with_len 0 (length dates))
found_never dates latest op is l so_far =
    sym (so_far ∙ first_never (at dates) latest op (length dates) l) ∙ ap (λ (n : ℕ). first_at (at dates) n (range_with_len 0 (length dates))) (is ∙ greatest_listed dates)

-- the first of those that pass a test passes it
first_passes : (test : ℕ → Bool) (dates : ℕ → ℕ) (date : ℕ) (us : List ℕ) → list_all test us ≡ true → IfSome (first_at dates date us) (λ u. test u ≡ true)
first_passes test dates date [] h = tt
first_passes test dates date (u ∷ us) h =
    let both = and_parts (test u) (list_all test us) h in
    by (nat_eq (dates u) date) both.0 (first_passes test dates date us both.1)
  where
    by : (b : Bool) → test u ≡ true → IfSome (first_at dates date us) (λ u. test u ≡ true) → IfSome (cond b (Some u) (first_at dates date us)) (λ u. test u ≡ true)
    by true e later = e
    by false e later = later

all_imply : (f g : ℕ → Bool) → ((u : ℕ) → f u ≡ true → g u ≡ true) → (us : List ℕ) → list_all f us ≡ true → list_all g us ≡ true
all_imply f g h [] e = refl
all_imply f g h (u ∷ us) e = let a = and_parts (f u) (list_all f us) e in and_from (g u) (list_all g us) (h u a.0) (all_imply f g h us a.1)

same_first : (f g : ℕ → ℕ) (test : ℕ → Bool) → ((v : ℕ) → test v ≡ true → f v ≡ g v) → (date : ℕ) (vs : List ℕ) → list_all test vs ≡ true → first_at f date vs ≡ first_at g date vs
same_first f g test same date [] h = refl
same_first f g test same date (v ∷ vs) h =
    let both = and_parts (test v) (list_all test vs) h in
    λ i. cond (nat_eq (same v both.0 i) date) (Some v) (same_first f g test same date vs both.1 i)

-- of dates that are the same the latest is the same
same_latest : (f g : ℕ → ℕ) (test : ℕ → Bool) → ((v : ℕ) → test v ≡ true → f v ≡ g v) → (vs : List ℕ) → list_all test vs ≡ true → latest_of f vs ≡ latest_of g vs
same_latest f g test same vs h = ap (λ (n : ℕ). first_at f n vs) (same_where f g test same vs h) ∙ same_first f g test same (greatest (map g vs)) vs h

module _ (operators : ℕ) (ticks : ℕ → ℕ → Option ℕ) (vertices : List Vertex) (acyclic : is_acyclic vertices ≡ true) where
  abbrev pub Within : Option ℕ → Type 0
  Within o = IfSome o (λ v. v < length vertices)

  abbrev is_within : ℕ → Bool
  is_within v = nat_lt v (length vertices)

  all_within : list_all is_within (all_operations (length vertices)) ≡ true
  all_within = all_imply (is_done vertices (length vertices)) is_within (λ u h. lt-ltb u (length vertices) (done_within vertices (length vertices) u h)) (all_operations (length vertices)) acyclic

  needs_within : (v : ℕ) → v < length vertices → list_all is_within (needs_of vertices v) ≡ true
  needs_within v l = by (length vertices) (all_done vertices acyclic v l)
    where
      by : (n : ℕ) → is_done vertices n v ≡ true → list_all is_within (needs_of vertices v) ≡ true
      by zero h = absurd (false≢true h)
      by (suc n) h = all_imply (is_done vertices n) is_within (λ u k. lt-ltb u (length vertices) (done_within vertices n u k)) (needs_of vertices v) (needs_done operators ticks vertices n v h)

  latest_within : (dates : ℕ → ℕ) (us : List ℕ) → list_all is_within us ≡ true → Within (latest_of dates us)
  latest_within dates us h = by (latest_of dates us) (first_passes is_within dates (greatest (map dates us)) us h)
    where
      by : (o : Option ℕ) → IfSome o (λ u. is_within u ≡ true) → Within o
      by None h = tt
      by (Some u) h = ltb-true u (length vertices) h

  module _ (dates : ℕ → ℕ) (chains : (v : ℕ) → v < length vertices → dates v ≡ chain_to operators ticks vertices v) where
    same_where_within : (us : List ℕ) → list_all is_within us ≡ true → latest_of dates us ≡ latest_of (chain_to operators ticks vertices) us
    same_where_within us h = same_latest dates (chain_to operators ticks vertices) is_within (λ v k. chains v (ltb-true v (length vertices) k)) us h

    pub last_is : (n : ℕ) → n ≡ length vertices → latest_of dates (range_with_len 0 n) ≡ latest_of (chain_to operators ticks vertices) (all_operations (length vertices))
    last_is n e = ap (λ (k : ℕ). latest_of dates (range_with_len 0 k)) e ∙ same_where_within (all_operations (length vertices)) all_within

    pub last_within : (n : ℕ) → n ≡ length vertices → Within (latest_of dates (range_with_len 0 n))
    last_within n e = subst (λ (k : ℕ). Within (latest_of dates (range_with_len 0 k))) (sym e) (latest_within dates (all_operations (length vertices)) all_within)

    next_is : (v : ℕ) (x : Vertex) → v < length vertices → x ≡ slice_index_or vertices v x → latest_of dates (depends_on x) ≡ latest_of (chain_to operators ticks vertices) (needs_of vertices v)
    next_is v x l o =
        ap (λ (y : Option Vertex). latest_of dates (with_vertex y [] depends_on))
        (sym (slice_get_read vertices (length vertices) v x refl l o)) ∙ same_where_within (needs_of vertices v) (needs_within v l)

    abbrev pub on_way : ℕ → Option ℕ → List Link
    on_way i next = map (link_of operators ticks vertices) (back_within operators ticks vertices (length vertices - i) next)

    -- a link more
    pub way_more : (links whole : List Link) (i op : ℕ) (own : ℕ) (x : Vertex) (next : Option ℕ) → i < length vertices → op
        < length vertices → own ≡ least operators ticks op → x ≡ slice_index_or vertices op x
        → next ≡ latest_of dates (depends_on x) → links ++ on_way i (Some op) ≡ whole → links ++ (record { op = op; ticks = own }) ∷ [] ++ on_way (i + 1) next ≡ whole
    way_more links whole i op own x next l m o r is way =
        let k : length vertices - i ≡ suc (length vertices - (i + 1)) = omega arith in
        let to = is ∙ next_is op x m r in
        append_assoc links (record { op = op; ticks = own } ∷ []) (on_way (i + 1) next)
        ∙ (λ j. links ++ record { op = op; ticks = o j } ∷ map (link_of operators ticks vertices) (back_within operators ticks vertices (length vertices - (i + 1)) (to j)))
        ∙ ap (λ (n : ℕ). links ++ map (link_of operators ticks vertices) (back_within operators ticks vertices n (Some op))) (sym k)
        ∙ way

    pub next_within : (op : ℕ) (x : Vertex) (next : Option ℕ) → op < length vertices → x ≡ slice_index_or vertices op x → next ≡ latest_of dates (depends_on x) → Within next
    next_within op x next l r is =
        subst Within (sym (is ∙ next_is op x l r)) (latest_within (chain_to operators ticks vertices) (needs_of vertices op) (needs_within op l))

    -- the way is at its end
    pub way_none : (links whole : List Link) (i : ℕ) → links ++ on_way i None ≡ whole → links ≡ whole
    way_none links whole i way = sym (append-nil links)
        ∙ ap (λ (us : List ℕ). links ++ map (link_of operators ticks vertices) us) (sym (back_none operators ticks vertices (length vertices - i))) ∙ way

    pub way_all : (links whole : List Link) (i : ℕ) (next : Option ℕ) → length vertices ≤ i → links ++ on_way i next ≡ whole → links ≡ whole
    way_all links whole i next l way =
        sym (append-nil links)
        ∙ ap (λ (n : ℕ). links ++ map (link_of operators ticks vertices) (back_within operators ticks vertices n next)) (let e : 0 ≡ length vertices - i = omega arith in e) ∙ way
