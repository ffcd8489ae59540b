-- Where the sources of a tree without repetitions lead when its cases are under guards: to the same as before, where further
-- inputs stand before those of a graph.
use Rattle.std.proofs.Common.{◌≡◌, ℕ, zero, suc, ◌+◌, ◌<◌, ◌≤◌, ℤ, List, [], ◌∷◌, ◌++◌, length, map, Some, slice_get, refl, sym, ap, ap₂, ◌∙◌, arith, length-append}
use Rattle.std.proofs.lemmas.List.{map-append}
use Rattle.algo_tree.specs.declared.Source.{Source}
use Rattle.algo_tree.specs.declared.Source.TheVariants.{Own, Of}
use Rattle.algo_tree.specs.declared.Guard.{Guard}
use Rattle.algo_tree.specs.Level.{Path}
use Rattle.algo_tree.specs.Tree.{Label, Kind, sensor, actuator, constant, delay, function, explode, implode, merge, graph, switch, repeat, Vertex, vertex, Vertices, no_vertices, and_vertex}
use Rattle.algo_tree.specs.Code.{count_of, join}
use Rattle.algo_tree.specs.Meaning.{asked_by}
use Rattle.algo_tree.specs.Well.{AreOwn, AreCases}
use Rattle.algo_tree.specs.NoRepeat.{IsNoRepeat, HasNoRepeat, AllNoRepeat}
use Rattle.algo_tree.proofs.Lists.{append_right, map_map}
use Rattle.flat_laws.specs.Guarded.{shift, guard_sources, own_guards, guard_for, merges, merge_sources, guarded_by, guarded, guarded_all, guarded_cases}
use Rattle.flat_laws.specs.Origins.{Origin, nowhere, origin_at, inside, port, output_of, Outlet, origin_by, output_origin, origin_in, case_origin, case_output, leads_by, outlets}
use Rattle.flat_laws.proofs.Lists.{slice_left, slice_right, by-places}
use Rattle.flat_laws.proofs.Following.{given}
use Rattle.flat_laws.proofs.Rows.{unit_of, outlets-join}
use Rattle.syn_base.specs.Numbers.{numbers_below}

pub each-same : {A B : Type 0} (f g : A → B) → ((x : A) → f x ≡ g x) → (xs : List A) → map f xs ≡ map g xs
each-same f g h [] = refl
each-same f g h (x ∷ xs) = ap₂ (λ y ys. y ∷ ys) (h x) (each-same f g h xs)

-- sources that are shifted lead to the same
pub shifted-same : (f g : Source → Origin) (n : ℕ) → ((s : Source) → f (shift n s) ≡ g s) → (ss : List Source) → map f (map (shift n) ss) ≡ map g ss
shifted-same f g n h ss = map_map f (shift n) ss ∙ each-same (λ s. f (shift n s)) g h ss

-- inputs of a switch that are shifted lead to the same
pub own-same : (f : Source → Origin) (own : List Origin) (m : ℕ) → ((k : ℕ) → f (Own (m + k)) ≡ origin_at own k) → (ss : List Source) → AreOwn ss → map f (map (shift m) ss) ≡ map (case_origin own) ss
own-same f own m h [] all = refl
own-same f own m h (Own k ∷ ss) all = ap₂ (λ x xs. x ∷ xs) (h k) (own-same f own m h ss all.1)
own-same f own m h (Of r p ∷ ss) all = absurd all.0

-- the sources of guards stand before the inputs
length-guards : (f : Source → Origin) (gs : List Guard) → length (map f (guard_sources gs)) ≡ length gs
length-guards f [] = refl
length-guards f (g ∷ gs) = ap suc (length-guards f gs)

pub handed : (f g : Source → Origin) (gs : List Guard) (n : ℕ) (ss : List Source) → map f (map (shift n) ss) ≡ map g ss → (k : ℕ)
    → origin_at (map f (guard_sources gs ++ map (shift n) ss)) (length gs + k) ≡ origin_at (map g ss) k
handed f g gs n ss e k =
    ap (λ (os : List Origin). origin_at os (length gs + k)) (map-append f (guard_sources gs) (map (shift n) ss))
    ∙ ap (λ (m : ℕ). origin_at (map f (guard_sources gs) ++ map f (map (shift n) ss)) (m + k)) (sym (length-guards f gs))
    ∙ append_right (map f (guard_sources gs)) (map f (map (shift n) ss)) k nowhere
    ∙ ap (λ (os : List Origin). origin_at os k) e

-- the units of a level before and after, where one more number of inputs stands before its own
abbrev pub SameUnits : Path → ℕ → Vertices → Vertices → Type 0
SameUnits p m vs us = (f g : Source → Origin) → ((s : Source) → f (shift m s) ≡ g s) → (r q : ℕ) → given f q (slice_get (outlets p vs) r) ≡ given g q (slice_get (outlets p us) r)

-- the cases of a switch before and after
abbrev pub SameCases : Path → ℕ → Vertices → Vertices → Type 0
SameCases p m vs us =
    (f : Source → Origin) (own : List Origin) → ((k : ℕ) → f (Own (m + k)) ≡ origin_at own k) → (r q : ℕ)
    → given f q (slice_get (outlets p vs) r) ≡ given (case_origin own) q (slice_get (outlets p us) r)

-- the sources of a graph
module _ (p : Path) (m : ℕ) (vs us : Vertices) (long : length (outlets p vs) ≡ length (outlets p us)) (same : SameUnits p m vs us)
    (more own : List Origin) (fed : (k : ℕ) → origin_at more (m + k) ≡ origin_at own k) where
  at-source : (x y : ℕ → ℕ → Origin) → ((r q : ℕ) → x r q ≡ y r q) → (s : Source) → origin_by more x (shift m s) ≡ origin_by own y s
  at-source x y h (Own k) = fed k
  at-source x y h (Of r q) = h r q

  by-fuel : (fuel r q : ℕ) → output_origin (outlets p vs) more fuel r q ≡ output_origin (outlets p us) own fuel r q
  by-fuel zero r q = refl
  by-fuel (suc fuel) r q =
      same (origin_by more (output_origin (outlets p vs) more fuel)) (origin_by own (output_origin (outlets p us) own fuel))
      (at-source (output_origin (outlets p vs) more fuel) (output_origin (outlets p us) own fuel) (by-fuel fuel)) r q

  pub graph-leads : (s : Source) → origin_in (outlets p vs) more (shift m s) ≡ origin_in (outlets p us) own s
  graph-leads s = ap (λ (n : ℕ). origin_by more (output_origin (outlets p vs) more n) (shift m s)) long
      ∙ at-source (output_origin (outlets p vs) more (length (outlets p us))) (output_origin (outlets p us) own (length (outlets p us))) (by-fuel (length (outlets p us))) s

-- the merges of a switch
module _ (p : Path) (d : List ℕ) (gs : List Guard) (m : ℕ) (values : List ℤ) (count : ℕ) (lens : List ℕ) where
  merge-leads : (f : Source → Origin) (j : ℕ) (names : List (List ℕ)) (i : ℕ) (name : List ℕ) → slice_get names i ≡ Some name
      → given f 0 (slice_get (outlets p (merges d gs m values count lens j names)) i) ≡ output_of (port p name) (merge values) 0
  merge-leads f j [] i name is = absurd (cc)
  merge-leads f j (x ∷ names) zero name is = let e : x ≡ name = cc in ap (λ y. output_of (port p y) (merge values) 0) e
  merge-leads f j (x ∷ names) (suc i) name is = merge-leads f (suc j) names i name is

  long-merges : (j : ℕ) (names : List (List ℕ)) → length (outlets p (merges d gs m values count lens j names)) ≡ length names
  long-merges j [] = refl
  long-merges j (x ∷ names) = ap suc (long-merges (suc j) names)

-- the sources of the graph that a switch becomes, where the cases become these
module _ (p : Path) (d : List ℕ) (hs : List Guard) (m : ℕ) (values : List ℤ) (lens : List ℕ) (names : List (List ℕ)) (cs us : Vertices)
    (long : length (outlets p cs) ≡ count_of us) (more : List Origin) where
  abbrev pub whole : Vertices
  whole = join cs (merges d hs m values (count_of us) lens 0 names)

  abbrev pub leads : Source → Origin
  leads = origin_in (outlets p whole) more

  abbrev Ms : List Outlet
  Ms = outlets p (merges d hs m values (count_of us) lens 0 names)

  joined : outlets p whole ≡ outlets p cs ++ Ms
  joined = outlets-join p cs (merges d hs m values (count_of us) lens 0 names)

  many : length (outlets p whole) ≡ count_of us + length names
  many = ap length joined ∙ length-append (outlets p cs) Ms ∙ ap₂ (λ a b. a + b) long (long-merges p d hs m values (count_of us) lens 0 names)

  merge-by : (fuel : ℕ) → 1 ≤ fuel → (i : ℕ) (name : List ℕ) → slice_get names i ≡ Some name → output_origin (outlets p whole) more fuel (count_of us + i) 0 ≡ output_of (port p name) (merge values) 0
  merge-by zero some i name is = absurd (omega arith)
  merge-by (suc fuel) some i name is =
      let f = origin_by more (output_origin (outlets p whole) more fuel) in
      ap₂ (λ (xs : List Outlet) (k : ℕ). given f 0 (slice_get xs (k + i))) joined (sym long)
      ∙ ap (given f 0) (slice_right (outlets p cs) Ms i) ∙ merge-leads p d hs m values (count_of us) lens f 0 names i name is

  there : (xs : List (List ℕ)) (i : ℕ) (name : List ℕ) → slice_get xs i ≡ Some name → 1 ≤ length xs
  there [] i name is = absurd (cc)
  there (x ∷ xs) i name is = omega arith

  -- an output of the graph is a merge
  pub merges-lead : map leads (merge_sources (count_of us) (length names)) ≡ map (λ name. output_of (port p name) (merge values) 0) names
  merges-lead =
      map_map leads (λ i. Of (count_of us + i) 0) (numbers_below (length names))
      ∙ by-places (λ i. leads (Of (count_of us + i) 0)) (λ name. output_of (port p name) (merge values) 0) names (λ i name is.
      merge-by (length (outlets p whole)) (let e = many in let some = there names i name is in omega (arith, e, some)) i name is)

  case-by : (same : SameCases p m cs us) (own : List Origin) → ((k : ℕ) → origin_at more (m + k) ≡ origin_at own k) → (fuel : ℕ) → 1 ≤ fuel
      → (q i : ℕ) (u : Outlet) → slice_get (outlets p us) i ≡ Some u → i < count_of us
      → output_origin (outlets p whole) more fuel i q ≡ case_output own q u
  case-by same own fed zero some q i u is lt = absurd (omega arith)
  case-by same own fed (suc fuel) some q i u is lt =
      let f = origin_by more (output_origin (outlets p whole) more fuel) in
      ap (λ (xs : List Outlet). given f q (slice_get xs i)) joined
      ∙ ap (given f q) (slice_left (outlets p cs) Ms i (let e = long in omega (arith, e, lt)))
      ∙ same f own fed i q ∙ ap (given (case_origin own) q) is

  slice-below : (xs : List Outlet) (i : ℕ) (u : Outlet) → slice_get xs i ≡ Some u → i < length xs
  slice-below [] i u is = absurd (cc)
  slice-below (x ∷ xs) zero u is = omega arith
  slice-below (x ∷ xs) (suc i) u is = let h = slice-below xs i u is in omega (arith, h)

  count-outlets : (xs : Vertices) → length (outlets p xs) ≡ count_of xs
  count-outlets no_vertices = refl
  count-outlets (and_vertex u xs) = ap suc (count-outlets xs)

  -- what a merge reads of the cases
  pub cases-lead : SameCases p m cs us → (own : List Origin) → ((k : ℕ) → origin_at more (m + k) ≡ origin_at own k) → (q : ℕ)
      → map leads (map (λ i. Of i q) (numbers_below (count_of us))) ≡ map (case_output own q) (outlets p us)
  cases-lead same own fed q =
      map_map leads (λ i. Of i q) (numbers_below (count_of us))
      ∙ ap (λ n. map (λ i. leads (Of i q)) (numbers_below n)) (sym (count-outlets us))
      ∙ by-places (λ i. leads (Of i q)) (case_output own q) (outlets p us) (λ i u is.
      let below = slice-below (outlets p us) i u is in
      let all = count-outlets us in
      let e = many in
      case-by same own fed (length (outlets p whole)) (omega (arith, below, all, e)) q i u is (omega (arith, below, all)))

-- a unit before and after, by its kind
by-kind : (gs : List Guard) (n : ℕ) (p : Path) (l : Label) (k : Kind) (us : Vertices) → IsNoRepeat k
    → (inner : List Guard → ℕ → Vertices) (cases : List Guard → ℕ → List ℤ → Vertices) (body : ℕ → List Origin → ℕ → Origin)
    → ((q : Path) (hs : List Guard) (m : ℕ) → (length (outlets q (inner hs m)) ≡ length (outlets q us)) × SameUnits q m (inner hs m) us)
    → ((q : Path) (hs : List Guard) (m : ℕ) (values : List ℤ) → length (outlets q (cases hs m values)) ≡ count_of us)
    → (f g : Source → Origin) → map f (map (shift n) (asked_by k l.ins)) ≡ map g (asked_by k l.ins) → (q : ℕ)
    → (unit_of p (guarded_by gs n l k us inner cases)).leads (map f (unit_of p (guarded_by gs n l k us inner cases)).asked) q
    ≡ leads_by (inside p l.part) k (outlets (inside p l.part) us) body (map g (asked_by k l.ins)) q
by-kind gs n p l (graph sources) us none inner cases body I C f g e q =
    let P = inside p l.part in
    let m = length gs in
    let i = I P (own_guards 0 gs) m in
    let more = map f (guard_sources gs ++ map (shift n) l.ins) in
    ap (λ (os : List Origin). origin_at os q) (shifted-same (origin_in (outlets P (inner (own_guards 0 gs) m)) more) (origin_in (outlets P us) (map g l.ins)) m
    (graph-leads P m (inner (own_guards 0 gs) m) us i.0 i.1 more (map g l.ins) (handed f g gs n l.ins e)) sources)
by-kind gs n p l (switch values names) us none inner cases body I C f g e q =
    let P = inside p l.part in
    let m = length gs in
    let hs = own_guards 0 gs in
    ap (λ (os : List Origin). origin_at os q) (merges-lead P l.definition hs m values l.outs names (cases hs m values) us (C P hs m values) (map f (guard_sources gs ++ map (shift n) l.ins)))
by-kind gs n p l (repeat k feeds gives) us none inner cases body I C f g e q = absurd none
by-kind gs n p l (delay vs) us none inner cases body I C f g e q = refl
by-kind gs n p l (sensor k) us none inner cases body I C f g e q = refl
by-kind gs n p l (actuator k) us none inner cases body I C f g e q = refl
by-kind gs n p l (constant v) us none inner cases body I C f g e q = refl
by-kind gs n p l (function es) us none inner cases body I C f g e q = refl
by-kind gs n p l explode us none inner cases body I C f g e q = refl
by-kind gs n p l implode us none inner cases body I C f g e q = refl
by-kind gs n p l (merge values) us none inner cases body I C f g e q = refl

pub long-guarded_all : (gs : List Guard) (n : ℕ) (p : Path) (us : Vertices) → length (outlets p (guarded_all gs n us)) ≡ length (outlets p us)
long-guarded_all gs n p no_vertices = refl
long-guarded_all gs n p (and_vertex u us) = ap suc (long-guarded_all gs n p us)

pub long-guarded_cases : (gs : List Guard) (m : ℕ) (values : List ℤ) (c : ℕ) (p : Path) (us : Vertices) → length (outlets p (guarded_cases gs m values c us)) ≡ count_of us
long-guarded_cases gs m values c p no_vertices = refl
long-guarded_cases gs m values c p (and_vertex u us) = ap suc (long-guarded_cases gs m values (suc c) p us)

mutual
  leads-guarded : (gs : List Guard) (n : ℕ) (p : Path) (u : Vertex) → HasNoRepeat u → (f g : Source → Origin) → map f (map (shift n) (unit_of p u).asked) ≡ map g (unit_of p u).asked → (q : ℕ)
      → (unit_of p (guarded gs n u)).leads (map f (unit_of p (guarded gs n u)).asked) q ≡ (unit_of p u).leads (map g (unit_of p u).asked) q
  leads-guarded gs n p (vertex l us) none f g e q =
      by-kind gs n p l l.kind us none.0 (λ inside m. guarded_all inside m us) (λ inside m values. guarded_cases inside m values 0 us) _
      (λ x hs m. (long-guarded_all hs m x us, units-guarded hs m x us none.1)) (λ x hs m values. long-guarded_cases hs m values 0 x us) f g e q

  pub units-guarded : (gs : List Guard) (n : ℕ) (p : Path) (us : Vertices) → AllNoRepeat us → SameUnits p n (guarded_all gs n us) us
  units-guarded gs n p no_vertices none f g h r q = refl
  units-guarded gs n p (and_vertex u us) none f g h zero q = leads-guarded gs n p u none.0 f g (shifted-same f g n h (unit_of p u).asked) q
  units-guarded gs n p (and_vertex u us) none f g h (suc r) q = units-guarded gs n p us none.1 f g h r q

-- what a case asks for is of its switch
own-asked : (k : Kind) (ss : List Source) → AreOwn ss → AreOwn (asked_by k ss)
own-asked (delay vs) ss h = tt
own-asked (sensor m) ss h = h
own-asked (actuator m) ss h = h
own-asked (constant v) ss h = h
own-asked (function es) ss h = h
own-asked explode ss h = h
own-asked implode ss h = h
own-asked (merge values) ss h = h
own-asked (graph sources) ss h = h
own-asked (switch values names) ss h = h
own-asked (repeat n feeds gives) ss h = h

pub cases-guarded : (gs : List Guard) (m : ℕ) (values : List ℤ) (c : ℕ) (p : Path) (us : Vertices) → AllNoRepeat us → AreCases us → SameCases p m (guarded_cases gs m values c us) us
cases-guarded gs m values c p no_vertices none h f own fed r q = refl
cases-guarded gs m values c p (and_vertex (vertex l vs) us) none h f own fed zero q =
    leads-guarded (gs ++ guard_for m values c ∷ []) m p (vertex l vs) none.0 f (case_origin own) (own-same f own m fed (asked_by l.kind l.ins) (own-asked l.kind l.ins h.0.0)) q
cases-guarded gs m values c p (and_vertex (vertex l vs) us) none h f own fed (suc r) q = cases-guarded gs m values (suc c) p us none.1 h.1 f own fed r q
