-- The table of a level: once a vertex is done, its outputs lead where the wires of the level lead.
use Rattle.std.proofs.Common.{
  ◌≡◌,
  ℕ,
  zero,
  suc,
  ◌+◌,
  ◌<◌,
  ◌≤◌,
  inl,
  inr,
  List,
  [],
  ◌∷◌,
  ◌++◌,
  length,
  get_or,
  set,
  map,
  take,
  Bool,
  true,
  false,
  Option,
  Some,
  None,
  slice_get,
  slice_index_or,
  refl,
  sym,
  ap,
  ap₂,
  ◌∙◌,
  subst,
  arith,
}
use mathlib.Core.Path.{fun_ext}
use Rattle.std.proofs.lemmas.Bool.{cases_lt, false≢true}
use Rattle.algo_tree.specs.declared.Source.{Source}
use Rattle.algo_tree.specs.declared.Source.TheVariants.{Own, Of}
use Rattle.algo_tree.specs.Level.{Node, with_node}
use Rattle.algo_tree.specs.Order.{sources_ready, guards_ready, is_ready, IsAcyclic}
use Rattle.algo_tree.proofs.Fuel.{and-left, and-right}
use Rattle.algo_tree.specs.Counted.{operations as count}
use Rattle.algo_tree.specs.Tree.{Vertex, vertex}
use Rattle.algo_tree.specs.Meaning.{node, nodes, asked_by}
use Rattle.algo_tree.specs.View.{view, kind_view, vertices_view}
use Rattle.algo_tree.specs.Well.{IsWell, AllWell}
use Rattle.algo_tree.specs.declared.vertex.Vertex.{Vertex as Declared, out-Vertex}
use Rattle.algo_tree.specs.declared.vertex.Kind.TheVariants.{Graph}
use Rattle.algo_tree.proofs.Views.{view_out}
use Rattle.flat_laws.specs.Inlined.{nowhere, with_wiring, wire_source, wire, gives_by, wiring, wirings}
use Rattle.algo_tree.proofs.Lists.{none_past}
use Rattle.flat_laws.proofs.Wires.{matched, wire_fix}
use Rattle.hierarchy.specs.Order.{is_among, MayRun, IsOrder, nodes_of}
use Rattle.hierarchy.proofs.Nodes.{nodes_view, node_at, length-nodes_of}
use Rattle.hierarchy.proofs.Among.{eqb_cases, among_other}
use Rattle.hierarchy.specs.Numbers.{first_numbers}
use Rattle.hierarchy.specs.Wires.{output_led, with_led, led_out, led, Leads}
use Rattle.hierarchy.specs.declared.wires.Led.{Led}
use Rattle.hierarchy.specs.declared.wires.Led.TheVariants as row

abbrev pub inner_of : Declared → List Declared
inner_of u = (out-Vertex u).inner.items

take_suc : (xs : List ℕ) (i : ℕ) → i < length xs → take (suc i) xs ≡ take i xs ++ get_or xs i 0 ∷ []
take_suc [] i lt = absurd (omega arith)
take_suc (x ∷ xs) zero lt = refl
take_suc (x ∷ xs) (suc i) lt = ap (λ ys. x ∷ ys) (take_suc xs i (omega arith))

pub take_next : (xs : List ℕ) (i : ℕ) → i < length xs → take (i + 1) xs ≡ take i xs ++ get_or xs i 0 ∷ []
take_next xs i lt = let one : i + 1 ≡ suc i = omega arith in ap (λ n. take n xs) one ∙ take_suc xs i lt

pub get_or_any : (xs : List ℕ) (i d e : ℕ) → i < length xs → get_or xs i d ≡ get_or xs i e
get_or_any [] i d e lt = absurd (omega arith)
get_or_any (x ∷ xs) zero d e lt = refl
get_or_any (x ∷ xs) (suc i) d e lt = get_or_any xs i d e (omega arith)

-- a vertex whose turn comes is there
at_none : (done : ℕ → Bool) (o : Option Node) → o ≡ None → with_node o false (is_ready done) ≡ true → ⊥
at_none done None is h = false≢true h
at_none done (Some c) is h = cc

pub turn_there : (cs : List Node) (before : List ℕ) (r : ℕ) → MayRun cs before r → r < length cs
turn_there cs before r may = elim (cases_lt r (length cs)) [
  | inl lt ↦ lt
  | inr past ↦ absurd (at_none (is_among before) (slice_get cs r) (none_past cs r past) may.ready)
]

-- the rows of a table

-- the rows of a table
led_set_same : (leds : List Led) (r : ℕ) (x : Led) (p : ℕ) → r < length leds → led_out (set leds r x) r p ≡ output_led x p
led_set_same [] r x p lt = absurd (omega arith)
led_set_same (y ∷ leds) zero x p lt = refl
led_set_same (y ∷ leds) (suc r) x p lt = led_set_same leds r x p (omega arith)

led_set_other : (leds : List Led) (r q : ℕ) (x : Led) (p : ℕ) → (q ≡ r → ⊥) → led_out (set leds r x) q p ≡ led_out leds q p
led_set_other [] r q x p h = refl
led_set_other (y ∷ leds) zero zero x p h = absurd (h refl)
led_set_other (y ∷ leds) zero (suc q) x p h = refl
led_set_other (y ∷ leds) (suc r) zero x p h = refl
led_set_other (y ∷ leds) (suc r) (suc q) x p h = led_set_other leds r q x p (λ e. h (ap suc e))

led_past : (leds : List Led) (r p : ℕ) → length leds ≤ r → led_out leds r p ≡ nowhere
led_past leds r p h = ap (λ o. with_led o nowhere (λ x. output_led x p)) (none_past leds r h)

-- numbers and wirings, vertex by vertex
pub length-first_numbers : (b : ℕ) (us : List Declared) → length (first_numbers b (vertices_view us)) ≡ length us
length-first_numbers b [] = refl
length-first_numbers b (u ∷ us) = ap suc (length-first_numbers (b + count (view u)) us)

length-wirings : (b : ℕ) (us : List Declared) → length (wirings b (vertices_view us)) ≡ length us
length-wirings b [] = refl
length-wirings b (u ∷ us) = ap suc (length-wirings (b + count (view u)) us)

wiring_at : (b : ℕ) (us : List Declared) (r : ℕ) (u : Declared) → r < length us
    → slice_get (wirings b (vertices_view us)) r ≡ Some (wiring (get_or (first_numbers b (vertices_view us)) r 0) (view (get_or us r u)))
wiring_at b [] r u lt = absurd (omega arith)
wiring_at b (v ∷ us) zero u lt = refl
wiring_at b (v ∷ us) (suc r) u lt = wiring_at (b + count (view v)) us r u (omega arith)

asked_same : (b : ℕ) (v : Vertex) → (wiring b v).asked ≡ (node v).asked
asked_same b (vertex l us) = refl

-- tables that agree on all that is done lead the sources that are ready to the same
same_led : (own : List Source) (done : ℕ → Bool) (f g : ℕ → ℕ → Source) → ((r : ℕ) → done r ≡ true → (p : ℕ) → f r p ≡ g r p) → (ss : List Source) → sources_ready done ss ≡ true
    → map (wire_source own f) ss ≡ map (wire_source own g) ss
same_led own done f g same [] h = refl
same_led own done f g same (Own k ∷ ss) h = ap (λ xs. slice_index_or own k nowhere ∷ xs) (same_led own done f g same ss h)
same_led own done f g same (Of r p ∷ ss) h =
    ap₂ (λ x xs. x ∷ xs) (same r (and-left (done r) (sources_ready done ss) h) p) (same_led own done f g same ss (and-right (done r) (sources_ready done ss) h))

module _ (b : ℕ) (own : List Source) (us : List Declared) where
  abbrev wired : Source → Source
  wired = wire (wirings b (vertices_view us)) own

  -- each vertex of these is led
  abbrev pub AreLed : List ℕ → List Led → Type 0
  AreLed before leds = (r : ℕ) → is_among before r ≡ true → (p : ℕ) → led_out leds r p ≡ wired (Of r p)

  by_wiring : IsAcyclic (nodes_of us) → (r : ℕ) (p : ℕ) → with_wiring (slice_get (wirings b (vertices_view us)) r) nowhere (λ w. w.gives (map wired w.asked) p) ≡ wired (Of r p)
  by_wiring acyclic r p =
      wire_fix own (wirings b (vertices_view us)) (nodes (vertices_view us)) (matched b (vertices_view us)) (subst IsAcyclic (sym (nodes_view us)) acyclic) r p

  -- what a vertex asks for is led when its turn comes
  asked_led : (before : List ℕ) (leds : List Led) (r : ℕ) (u : Declared) → r < length us → MayRun (nodes_of us) before r → AreLed before leds → (n : ℕ)
      → map (led leds own) (wiring n (view (get_or us r u))).asked ≡ map wired (wiring n (view (get_or us r u))).asked
  asked_led before leds r u lt may done n =
      let v = view (get_or us r u) in
      let ready : is_ready (is_among before) (node v) ≡ true = ap (λ o. with_node o false (is_ready (is_among before))) (sym (node_at us r u lt)) ∙ may.ready in
      same_led own (is_among before) (led_out leds) (λ q p. wired (Of q p)) done (wiring n v).asked
      (ap (sources_ready (is_among before)) (asked_same n v) ∙ and-right (guards_ready (is_among before) (node v).guards) (sources_ready (is_among before) (node v).asked) ready)
      ∙ ap (λ f. map f (wiring n v).asked) (fun_ext by_source)
    where
      by_source : (s : Source) → wire_source own (λ q p. wired (Of q p)) s ≡ wired s
      by_source (Own k) = refl
      by_source (Of q p) = refl

  pub one_led : (before : List ℕ) (leds : List Led) (r : ℕ) (u : Declared) (x : Led) → IsAcyclic (nodes_of us) → r < length us
      → length leds ≡ length us → MayRun (nodes_of us) before r → AreLed before leds
      → Leads (get_or (first_numbers b (vertices_view us)) r 0) (led leds own) (view (get_or us r u)) x → AreLed (before ++ r ∷ []) (set leds r x)
  one_led before leds r u x acyclic lt count may done here q among p =
      let n = get_or (first_numbers b (vertices_view us)) r 0 in
      let w = wiring n (view (get_or us r u)) in
      elim (eqb_cases q r) [
        | inl same ↦
            let at_r : led_out (set leds r x) r p ≡ wired (Of r p) =
            led_set_same leds r x p (omega (arith, lt, count)) ∙ here p ∙ ap (λ ss. w.gives ss p) (asked_led before leds r u lt may done n)
            ∙ ap (λ o. with_wiring o nowhere (λ w'. w'.gives (map wired w'.asked) p)) (sym (wiring_at b us r u lt)) ∙ by_wiring acyclic r p in
            subst (λ k. led_out (set leds r x) k p ≡ wired (Of k p)) (sym same) at_r
        | inr other ↦ led_set_other leds r q x p other ∙ done q (sym (among_other before r q other) ∙ among) p
      ]

  -- a table with all vertices led is where the wires lead
  pub all_led : (order : List ℕ) (leds : List Led) → IsAcyclic (nodes_of us) → length leds ≡ length us → IsOrder (nodes_of us) order → AreLed order leds → led leds own ≡ wired
  all_led order leds acyclic count is done = fun_ext by_source
    where
      by_source : (s : Source) → led leds own s ≡ wired s
      by_source (Own k) = refl
      by_source (Of r p) = elim (cases_lt r (length us)) [
        | inl lt ↦ let long = length-nodes_of us in done r (is.all r (omega (arith, lt, long))) p
        | inr past ↦
            led_past leds r p (omega (arith, past, count))
            ∙ sym (ap (λ o. with_wiring o nowhere (λ w'. w'.gives (map wired w'.asked) p)) (none_past (wirings b (vertices_view us)) r (let long = length-wirings b us in omega (arith, past, long))))
            ∙ by_wiring acyclic r p
      ]

  pub none_led : (leds : List Led) → AreLed [] leds
  none_led leds r among p = cc

-- the outputs of a vertex
pub graph_led : (u : Declared) (outs : List Source) → (out-Vertex u).kind ≡ Graph outs
    → (b : ℕ) (w : Source → Source) (own sources : List Source) (f : Source → Source) → own ≡ map w (out-Vertex u).ins
    → f ≡ wire (wirings b (vertices_view (inner_of u))) own → sources ≡ map f outs → Leads b w (view u) (row.Graph sources)
graph_led u outs is b w own sources f from leads are =
    let us = vertices_view (inner_of u) in
    subst (λ v. Leads b w v (row.Graph sources)) (sym (view_out u))
    (λ p.
    ap (λ ss. slice_index_or ss p nowhere) (are ∙ ap (λ g. map g outs) (leads ∙ ap (wire (wirings b us)) from))
    ∙ sym (ap (λ k. gives_by b (kind_view k) (λ c. wirings c us) (map w (asked_by (kind_view k) (out-Vertex u).ins)) p) is))

-- what a graph asks of the level inside it
pub graph_well : (u : Declared) (outs : List Source) → (out-Vertex u).kind ≡ Graph outs → IsWell (view u) → AllWell (vertices_view (inner_of u)) × IsAcyclic (nodes_of (inner_of u))
graph_well u outs is well =
    let at = subst IsWell (view_out u) well in
    let here = rw is at at.0 in
    (at.1, subst IsAcyclic (nodes_view (inner_of u)) here.1.0)

pub well_at : (us : List Declared) (r : ℕ) (u : Declared) → AllWell (vertices_view us) → r < length us → IsWell (view (get_or us r u))
well_at [] r u h lt = absurd (omega arith)
well_at (v ∷ us) zero u h lt = h.0
well_at (v ∷ us) (suc r) u h lt = well_at us r u h.1 (omega arith)
