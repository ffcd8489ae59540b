-- Where the sources of a level lead is determined by what its units say, and more fuel changes nothing.
use Rattle.std.proofs.Common.{◌≡◌, ℕ, zero, suc, ◌≤◌, inl, inr, List, [], ◌∷◌, length, map, Bool, true, false, Option, slice_get, refl, sym, ap, ap₂, ◌∙◌, arith}
use Rattle.std.proofs.lemmas.Bool.{cases_lt, false≢true}
use Rattle.algo_tree.specs.declared.Source.{Source}
use Rattle.algo_tree.specs.declared.Source.TheVariants.{Own, Of}
use Rattle.algo_tree.specs.Level.{Path, Node, with_node}
use Rattle.algo_tree.specs.Order.{sources_ready, guards_ready, is_ready, settled, IsAcyclic}
use Rattle.algo_tree.proofs.Fuel.{and-left, and-right}
use Rattle.algo_tree.specs.Tree.{Vertex, vertex, Vertices, no_vertices, and_vertex}
use Rattle.algo_tree.specs.Meaning.{node, nodes}
use Rattle.algo_tree.specs.Typed.{label_of}
use Rattle.algo_tree.proofs.Lists.{none_past}
use Rattle.flat_laws.specs.Origins.{Origin, nowhere, origin_at, inside, Outlet, with_outlet, origin_by, output_origin, origin_in, outlet, outlets, FuelIsEnough}

-- where output q of a unit of a level leads, from where the sources of the level lead
abbrev pub given : (Source → Origin) → ℕ → Option Outlet → Origin
given f q o = with_outlet o nowhere (λ u. u.leads (map f u.asked) q)

-- the units of a level, beside its nodes
abbrev pub Matched : List Outlet → List Node → Type 0
Matched [] [] = Unit {0}
Matched [] (c ∷ cs) = ⊥
Matched (u ∷ us) [] = ⊥
Matched (u ∷ us) (c ∷ cs) = (u.asked ≡ c.asked) × Matched us cs

same_asked : (p : Path) (u : Vertex) → (outlet p u).asked ≡ (node u).asked
same_asked p (vertex l us) = refl

pub matched : (p : Path) (us : Vertices) → Matched (outlets p us) (nodes us)
matched p no_vertices = tt
matched p (and_vertex u us) = (same_asked (inside p (label_of u).part) u, matched p us)

matched_length : (us : List Outlet) (cs : List Node) → Matched us cs → length us ≡ length cs
matched_length [] [] h = refl
matched_length [] (c ∷ cs) h = absurd h
matched_length (u ∷ us) [] h = absurd h
matched_length (u ∷ us) (c ∷ cs) h = ap suc (matched_length us cs h.1)

module _ (own : List Origin) (look : Source → Origin) (fed : (k : ℕ) → look (Own k) ≡ origin_at own k) where
  asked_same : (done : ℕ → Bool) (f : ℕ → ℕ → Origin) → ((r : ℕ) → done r ≡ true → (p : ℕ) → f r p ≡ look (Of r p)) → (ss : List Source)
      → sources_ready done ss ≡ true → map (origin_by own f) ss ≡ map look ss
  asked_same done f same [] h = refl
  asked_same done f same (Own k ∷ ss) h = ap₂ (λ x xs. x ∷ xs) (sym (fed k)) (asked_same done f same ss h)
  asked_same done f same (Of r p ∷ ss) h =
      ap₂ (λ x xs. x ∷ xs) (same r (and-left (done r) (sources_ready done ss) h) p) (asked_same done f same ss (and-right (done r) (sources_ready done ss) h))

  pub at_unit : (us : List Outlet) (cs : List Node) → Matched us cs → (r : ℕ) (done : ℕ → Bool) (f : ℕ → ℕ → Origin)
      → ((r : ℕ) → done r ≡ true → (p : ℕ) → f r p ≡ look (Of r p)) → with_node (slice_get cs r) false (is_ready done) ≡ true
      → (p : ℕ) → given (origin_by own f) p (slice_get us r) ≡ given look p (slice_get us r)
  at_unit [] [] m r done f same h p = refl
  at_unit [] (c ∷ cs) m r done f same h p = absurd m
  at_unit (u ∷ us) [] m r done f same h p = absurd m
  at_unit (u ∷ us) (c ∷ cs) m zero done f same h p =
      ap (λ xs. u.leads xs p) (asked_same done f same u.asked (ap (sources_ready done) m.0 ∙ and-right (guards_ready done c.guards) (sources_ready done c.asked) h))
  at_unit (u ∷ us) (c ∷ cs) m (suc r) done f same h p = at_unit us cs m.1 r done f same h p

module _ (us : List Outlet) (cs : List Node) (m : Matched us cs) (own : List Origin) where
  past : (fuel r p : ℕ) → length us ≤ r → output_origin us own fuel r p ≡ nowhere
  past zero r p h = refl
  past (suc fuel) r p h = ap (given (origin_by own (output_origin us own fuel)) p) (none_past us r h)

  -- whatever meets what the units say is where the sources lead
  module _ (look : Source → Origin) (fed : (k : ℕ) → look (Own k) ≡ origin_at own k) (meets : (r p : ℕ) → given look p (slice_get us r) ≡ look (Of r p)) where
    solves : (k fuel r : ℕ) → settled cs k r ≡ true → k ≤ fuel → (p : ℕ) → output_origin us own fuel r p ≡ look (Of r p)
    solves zero fuel r h le p = absurd (false≢true h)
    solves (suc k) zero r h le p = absurd (omega arith)
    solves (suc k) (suc fuel) r h le p =
        at_unit own look fed us cs m r (settled cs k) (output_origin us own fuel) (λ q e x. solves k fuel q e (omega arith) x) h p ∙ meets r p

    pub origin-is : IsAcyclic cs → (s : Source) → origin_in us own s ≡ look s
    origin-is acyclic (Own k) = sym (fed k)
    origin-is acyclic (Of r p) = elim (cases_lt r (length us)) [
      | inl lt ↦ let len = matched_length us cs m in solves (length cs) (length us) r (acyclic r (omega (arith, len, lt))) (omega (arith, len)) p
      | inr over ↦ past (length us) r p over ∙ sym (ap (given look p) (none_past us r over)) ∙ meets r p
    ]

  more : (k fuel r : ℕ) → settled cs k r ≡ true → k ≤ fuel → (p : ℕ) → output_origin us own fuel r p ≡ output_origin us own k r p
  more zero fuel r h le p = absurd (false≢true h)
  more (suc k) zero r h le p = absurd (omega arith)
  more (suc k) (suc fuel) r h le p =
      at_unit own (origin_by own (output_origin us own k)) (λ j. refl) us cs m r (settled cs k) (output_origin us own fuel) (λ q e x. more k fuel q e (omega arith) x) h p

  enough : IsAcyclic cs → (r p fuel : ℕ) → length us ≤ fuel → output_origin us own fuel r p ≡ output_origin us own (length us) r p
  enough acyclic r p fuel le = elim (cases_lt r (length us)) [
    | inl lt ↦
        let len = matched_length us cs m in
        let there = acyclic r (omega (arith, len, lt)) in
        more (length cs) fuel r there (omega (arith, len, le)) p ∙ sym (more (length cs) (length us) r there (omega (arith, len)) p)
    | inr over ↦ past fuel r p over ∙ sym (past (length us) r p over)
  ]

pub fuel-enough : FuelIsEnough
fuel-enough path us own r p more acyclic le = enough (outlets path us) (nodes us) (matched path us) own acyclic r p more le
