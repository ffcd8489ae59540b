-- Where a source of a level leads, the value has the length that the tree gives the source. By rounds, since a source may stand
-- after its readers, and graphs pass inputs on.
use Rattle.std.proofs.Common.{◌≡◌, ℕ, zero, suc, ◌+◌, ◌≤◌, inl, inr, List, [], ◌∷◌, ◌++◌, length, map, slice_index_or, Bool, true, false, slice_get, refl, sym, ap, ap₂, ◌∙◌, subst, arith}
use Rattle.std.proofs.lemmas.Bool.{cases_lt, false≢true}
use Rattle.algo_tree.specs.declared.Source.{Source}
use Rattle.algo_tree.specs.declared.Source.TheVariants.{Own, Of}
use Rattle.algo_tree.specs.Level.{Path, with_node}
use Rattle.algo_tree.specs.Order.{source_ready, sources_ready, guards_ready, is_ready, settled, IsAcyclic}
use Rattle.algo_tree.proofs.Fuel.{and-left, and-right}
use Rattle.algo_tree.specs.Tree.{Label, Kind, sensor, actuator, constant, delay, function, explode, implode, merge, graph, switch, repeat, Vertex, vertex, Vertices, no_vertices, and_vertex}
use Rattle.algo_tree.specs.Meaning.{asked_by, node, nodes}
use Rattle.algo_tree.specs.Typed.{label_of, outs_of, source_length, IsKindTyped, IsTyped, AllTyped, IsBodyTyped}
use Rattle.algo_tree.specs.Counted.{operations as count}
use Rattle.flat_laws.specs.Flat.{Operation}
use Rattle.flat_laws.specs.Inlined.{nowhere, with_wiring, wire, gives_by, wiring, wirings, inlined_by, inlined, inlined_all, inlined_level}
use Rattle.flat_laws.proofs.Inlinable.{IsKindInlinable, CanInline, AllCanInline}
use Rattle.flat_laws.proofs.Wires.{matched, wire_fix, long-inlined}

pub same_map : {A B : Type 0} (f g : A → B) → ((x : A) → f x ≡ g x) → (xs : List A) → map f xs ≡ map g xs
same_map f g h [] = refl
same_map f g h (x ∷ xs) = ap₂ (λ y ys. y ∷ ys) (h x) (same_map f g h xs)

-- the lengths of the flat sources
module _ (long : Source → ℕ) (none : (k : ℕ) → long (Own k) ≡ 0) where
  -- operations that are numbered from b on have outputs of their lengths
  abbrev pub Outs : ℕ → List Operation → Type 0
  Outs b [] = Unit {0}
  Outs b (op ∷ ops) = ((p : ℕ) → long (Of b p) ≡ slice_index_or op.outs p 0) × Outs (suc b) ops

  pub outs-left : (b : ℕ) (xs ys : List Operation) → Outs b (xs ++ ys) → Outs b xs
  outs-left b [] ys h = tt
  outs-left b (x ∷ xs) ys h = (h.0, outs-left (suc b) xs ys h.1)

  pub outs-right : (b : ℕ) (xs ys : List Operation) → Outs b (xs ++ ys) → Outs (b + length xs) ys
  outs-right b [] ys h = subst (λ m. Outs m ys) (omega arith) h
  outs-right b (x ∷ xs) ys h = subst (λ m. Outs m ys) (omega arith) (outs-right (suc b) xs ys h.1)

  -- the length at one of several sources
  at_place : (W : Source → Source) (ss : List Source) (k : ℕ) → long (slice_index_or (map W ss) k nowhere) ≡ slice_index_or (map (λ s. long (W s)) ss) k 0
  at_place W [] k = none 0
  at_place W (s ∷ ss) zero = refl
  at_place W (s ∷ ss) (suc k) = at_place W ss k

  pub at_same : (W : Source → Source) (len : Source → ℕ) (ss : List Source) → map (λ s. long (W s)) ss ≡ map len ss → (k : ℕ)
      → long (slice_index_or (map W ss) k nowhere) ≡ slice_index_or (map len ss) k 0
  at_same W len ss h k = at_place W ss k ∙ ap (λ ns. slice_index_or ns k 0) h

  ready_same : (W : Source → Source) (len : Source → ℕ) (done : ℕ → Bool)
      → ((s : Source) → source_ready done s ≡ true → long (W s) ≡ len s) → (ss : List Source) → sources_ready done ss ≡ true
      → map (λ s. long (W s)) ss ≡ map len ss
  ready_same W len done h [] e = refl
  ready_same W len done h (s ∷ ss) e =
      ap₂ (λ n ns. n ∷ ns) (h s (and-left (source_ready done s) (sources_ready done ss) e)) (ready_same W len done h ss (and-right (source_ready done s) (sources_ready done ss) e))

  -- where all sources of a level lead
  abbrev pub Measures : Vertices → Type 0
  Measures us = (own : List Source) (lens : List ℕ) (b : ℕ) (at : Path → Path) → IsAcyclic (nodes us) → AllTyped lens (outs_of us) us
      → ((k : ℕ) → long (slice_index_or own k nowhere) ≡ slice_index_or lens k 0) → Outs b (inlined_level own b at us)
      → (s : Source) → long (wire (wirings b us) own s) ≡ source_length lens (outs_of us) s

  module _ (us : Vertices) (own : List Source) (lens : List ℕ) (b : ℕ) (acyclic : IsAcyclic (nodes us)) (fed : (k : ℕ) → long (slice_index_or own k nowhere) ≡ slice_index_or lens k 0)
      (each : (done : ℕ → Bool) → ((s : Source) → source_ready done s ≡ true → long (wire (wirings b us) own s)
      ≡ source_length lens (outs_of us) s) → (r : ℕ) → with_node (slice_get (nodes us) r) false (is_ready done) ≡ true → (p : ℕ)
      → long (with_wiring (slice_get (wirings b us) r) nowhere (λ w. w.gives (map (wire (wirings b us) own) w.asked) p)) ≡ slice_index_or (slice_index_or (outs_of us) r []) p 0) where
    rounds : (k : ℕ) (s : Source) → source_ready (settled (nodes us) k) s ≡ true → long (wire (wirings b us) own s) ≡ source_length lens (outs_of us) s
    rounds k (Own j) h = fed j
    rounds zero (Of r p) h = absurd (false≢true h)
    rounds (suc k) (Of r p) h = ap long (sym (wire_fix own (wirings b us) (nodes us) (matched b us) acyclic r p)) ∙ each (settled (nodes us) k) (rounds k) r h p

    outside : (w : Source → Source) (c : ℕ) (vs : Vertices) (r p : ℕ) → length (nodes vs) ≤ r
        → long (with_wiring (slice_get (wirings c vs) r) nowhere (λ x. x.gives (map w x.asked) p)) ≡ slice_index_or (slice_index_or (outs_of vs) r []) p 0
    outside w c no_vertices r p h = none 0
    outside w c (and_vertex u vs) zero p h = absurd (omega arith)
    outside w c (and_vertex u vs) (suc r) p h = outside w (c + count u) vs r p (omega arith)

    pub measured : (s : Source) → long (wire (wirings b us) own s) ≡ source_length lens (outs_of us) s
    measured (Own k) = fed k
    measured (Of r p) = elim (cases_lt r (length (nodes us))) [
      | inl lt ↦ rounds (length (nodes us)) (Of r p) (acyclic r lt)
      | inr past ↦ ap long (sym (wire_fix own (wirings b us) (nodes us) (matched b us) acyclic r p)) ∙ outside (wire (wirings b us) own) b us r p past
    ]

  module _ (W : Source → Source) (b : ℕ) (at : Path → Path) (l : Label) (us : Vertices) (len : Source → ℕ) (measures : Measures us) where
    abbrev inside : List Source → ℕ → (Path → Path) → List Operation
    inside own c below = inlined_all (wire (wirings c us) own) c below us

    measure-by : (k : Kind) → Outs b (inlined_by W b at l k inside) → IsKindInlinable k l.guards (nodes us)
        → IsKindTyped k (map len l.ins) l.outs (outs_of us) (λ own outs. AllTyped own outs us) (λ fed. IsBodyTyped fed us)
        → map (λ s. long (W s)) (asked_by k l.ins) ≡ map len (asked_by k l.ins) → (p : ℕ) → long (gives_by b k (λ c. wirings c us) (map W (asked_by k l.ins)) p) ≡ slice_index_or l.outs p 0
    measure-by (graph sources) m h t a p =
        at_same (wire (wirings b us) (map W l.ins)) (source_length (map len l.ins) (outs_of us)) sources
        (same_map (λ s. long (wire (wirings b us) (map W l.ins) s)) (source_length (map len l.ins) (outs_of us))
        (measures (map W l.ins) (map len l.ins) b (λ q. at (l.part ∷ q)) h.1.0 t.0 (at_same W len l.ins a) m) sources) p
        ∙ ap (λ ns. slice_index_or ns p 0) (sym t.1)
    measure-by (switch values names) m h t a p = absurd h
    measure-by (repeat n feeds gives) m h t a p = absurd h
    measure-by (delay []) m h t a p = absurd (omega (arith, h))
    measure-by (delay (v ∷ vs)) m h t a p = m.0 p
    measure-by (sensor n) m h t a p = m.0 p
    measure-by (actuator n) m h t a p = m.0 p
    measure-by (constant v) m h t a p = m.0 p
    measure-by (function es) m h t a p = m.0 p
    measure-by explode m h t a p = m.0 p
    measure-by implode m h t a p = m.0 p
    measure-by (merge values) m h t a p = m.0 p

  mutual
    measure-vertex : (W : Source → Source) (b : ℕ) (at : Path → Path) (u : Vertex) (len : Source → ℕ) → CanInline u → Outs b (inlined W b at u) → IsTyped (map len (label_of u).ins) u
        → map (λ s. long (W s)) (node u).asked ≡ map len (node u).asked → (p : ℕ) → long ((wiring b u).gives (map W (wiring b u).asked) p) ≡ slice_index_or (label_of u).outs p 0
    measure-vertex W b at (vertex l us) len h m t a p =
        measure-by W b at l us len (λ own lens c below acyclic typed fed outs. measured us own lens c acyclic fed
        (measure-all (wire (wirings c us) own) c below us lens (outs_of us) h.1 typed outs)) l.kind m h.0 t.1 a p

    measure-all : (W : Source → Source) (b : ℕ) (at : Path → Path) (us : Vertices) (lens : List ℕ) (outs : List (List ℕ)) → AllCanInline us → AllTyped lens outs us → Outs b (inlined_all W b at us)
        → (done : ℕ → Bool) → ((s : Source) → source_ready done s ≡ true → long (W s) ≡ source_length lens outs s) → (r : ℕ) → with_node (slice_get (nodes us) r) false (is_ready done) ≡ true → (p : ℕ)
        → long (with_wiring (slice_get (wirings b us) r) nowhere (λ w. w.gives (map W w.asked) p)) ≡ slice_index_or (slice_index_or (outs_of us) r []) p 0
    measure-all W b at no_vertices lens outs h t m done ih r ready p = absurd (false≢true ready)
    measure-all W b at (and_vertex u us) lens outs h t m done ih zero ready p =
        measure-vertex W b at u (source_length lens outs) h.0 (outs-left b (inlined W b at u) _ m) t.0.1
        (ready_same W (source_length lens outs) done ih (node u).asked (and-right (guards_ready done (node u).guards) (sources_ready done (node u).asked) ready)) p
    measure-all W b at (and_vertex u us) lens outs h t m done ih (suc r) ready p =
        measure-all W (b + count u) at us lens outs h.1 t.1
        (subst (λ n. Outs (b + n) (inlined_all W (b + count u) at us)) (long-inlined W b at u h.0) (outs-right b (inlined W b at u) _ m)) done ih r ready p

  pub measures-all : (us : Vertices) → AllCanInline us → Measures us
  measures-all us h own lens b at acyclic typed fed m = measured us own lens b acyclic fed (measure-all (wire (wirings b us) own) b at us lens (outs_of us) h typed m)
