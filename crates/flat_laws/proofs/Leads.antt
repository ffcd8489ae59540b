-- The flat list has no cycle, since no level has one.
use Rattle.std.proofs.Common.{◌≡◌, ℕ, zero, suc, ◌+◌, ◌<◌, ◌≤◌, ◌⊎◌, inl, inr, List, [], ◌∷◌, ◌++◌, length, map, slice_index_or, Bool, true, false, Some, slice_get, sym, subst, arith}
use Rattle.std.proofs.lemmas.Bool.{cases_lt, false≢true}
use Rattle.algo_tree.specs.declared.Source.{Source}
use Rattle.algo_tree.specs.declared.Source.TheVariants.{Own, Of}
use Rattle.algo_tree.specs.declared.Guard.{Guard}
use Rattle.algo_tree.specs.Level.{Path, Node, with_node}
use Rattle.algo_tree.specs.Order.{source_ready, sources_ready, guards_ready, is_ready, settled, IsAcyclic}
use Rattle.algo_tree.specs.Cycles.{IsOf, IsAmong, IsGuarding, Asks, Reaches, asks, goes}
use Rattle.algo_tree.proofs.Fuel.{in_range, and-left, and-right}
use Rattle.algo_tree.proofs.CyclesLemmas.{further, acyclic-from_reaching}
use Rattle.algo_tree.specs.Tree.{Label, Kind, sensor, actuator, constant, delay, function, explode, implode, merge, graph, switch, repeat, Vertex, vertex, Vertices, no_vertices, and_vertex}
use Rattle.algo_tree.specs.Meaning.{asked_by, node, nodes}
use Rattle.flat_laws.specs.Flat.{Operation, Stages, runs, gets, sets, node_of}
use Rattle.flat_laws.specs.Inlined.{nowhere, with_wiring, wire, gives_by, wiring, wirings, wire_guard, operation_of, stage_input, stages, inlined_by, inlined, inlined_all, inlined_level}
use Rattle.algo_tree.specs.Counted.{operations as count}
use Rattle.flat_laws.proofs.Inlinable.{IsKindInlinable, CanInline, AllCanInline}
use Rattle.flat_laws.proofs.Wires.{matched, wire_fix, long-inlined}
use Rattle.syn_base.specs.Vectors.{Vector}

-- all that vertex r asks for, however far, is in range and comes to an end
pub data Ends (cs : List Node) : ℕ → Type 0 where
  ends : {r : ℕ} → r < length cs → ((q : ℕ) → Asks cs r q → Ends cs q) → Ends cs r

ends-range : (cs : List Node) (r : ℕ) → Ends cs r → r < length cs
ends-range cs r (ends lt f) = lt

ends-on : (cs : List Node) (r q : ℕ) → Ends cs r → Asks cs r q → Ends cs q
ends-on cs r q (ends lt f) a = f q a

ends-none : (cs : List Node) (r : ℕ) → Ends cs r → Reaches cs r r → ⊥
ends-none cs r (ends lt f) (asks a) = ends-none cs r (f r a) (asks a)
ends-none cs r (ends lt f) (goes {q = q} a rest) = ends-none cs q (f q a) (further cs q rest a)

pub acyclic-from_ends : (cs : List Node) → ((r : ℕ) → r < length cs → Ends cs r) → IsAcyclic cs
acyclic-from_ends cs all =
    acyclic-from_reaching cs
    (λ r q a. ends-range cs q (ends-on cs r q (all r (in_range cs r a.at a.is)) a))
    (λ r reach. elim (cases_lt r (length cs)) [ inl lt ↦ ends-none cs r (all r lt) reach | inr past ↦ absurd (let lt = reach-range r reach in omega (arith, lt)) ])
  where
    reach-range : (r : ℕ) → Reaches cs r r → r < length cs
    reach-range r (asks a) = in_range cs r a.at a.is
    reach-range r (goes a rest) = in_range cs r a.at a.is

module _ (F : List Node) (cells : Stages) where
  abbrev pub SourceEnds : Source → Type 0
  SourceEnds (Own k) = Unit {0}
  SourceEnds (Of v p) = Ends F v

  abbrev pub AllEnd : List Source → Type 0
  AllEnd [] = Unit {0}
  AllEnd (s ∷ ss) = SourceEnds s × AllEnd ss

  abbrev pub GuardsEnd : List Guard → Type 0
  GuardsEnd [] = Unit {0}
  GuardsEnd (g ∷ gs) = SourceEnds g.source × GuardsEnd gs

  abbrev pub Placed : ℕ → List Operation → Type 0
  Placed b [] = Unit {0}
  Placed b (op ∷ ops) = (slice_get F b ≡ Some (node_of cells op)) × Placed (suc b) ops

  placed-left : (b : ℕ) (xs ys : List Operation) → Placed b (xs ++ ys) → Placed b xs
  placed-left b [] ys h = tt
  placed-left b (x ∷ xs) ys h = (h.0, placed-left (suc b) xs ys h.1)

  placed-right : (b : ℕ) (xs ys : List Operation) → Placed b (xs ++ ys) → Placed (b + length xs) ys
  placed-right b [] ys h = subst (λ m. Placed m ys) (omega arith) h
  placed-right b (x ∷ xs) ys h = subst (λ m. Placed m ys) (omega arith) (placed-right (suc b) xs ys h.1)

  of-ends : (q : ℕ) (s : Source) → IsOf q s → SourceEnds s → Ends F q
  of-ends q (Own k) is e = absurd is
  of-ends q (Of v p) is e = subst (Ends F) is e

  among-ends : (q : ℕ) (ss : List Source) → IsAmong q ss → AllEnd ss → Ends F q
  among-ends q [] h e = absurd h
  among-ends q (s ∷ ss) h e = elim h [ inl is ↦ of-ends q s is e.0 | inr later ↦ among-ends q ss later e.1 ]

  guarding-ends : (q : ℕ) (gs : List Guard) → IsGuarding q gs → GuardsEnd gs → Ends F q
  guarding-ends q [] h e = absurd h
  guarding-ends q (g ∷ gs) h e = elim h [ inl is ↦ of-ends q g.source is e.0 | inr later ↦ guarding-ends q gs later e.1 ]

  op-ends : (b : ℕ) (op : Operation) → slice_get F b ≡ Some (node_of cells op) → GuardsEnd op.guards → AllEnd op.ins → Ends F b
  op-ends b op is guards ins =
      ends (in_range F b (node_of cells op) is) (λ q a.
      let same : a.at ≡ node_of cells op = let e = a.is in cc in
      let by : IsGuarding q op.guards ⊎ IsAmong q op.ins = subst (λ (c : Node). IsGuarding q c.guards ⊎ IsAmong q c.asked) same a.by in
      elim by [ inl g ↦ guarding-ends q op.guards g guards | inr i ↦ among-ends q op.ins i ins ])

  -- what a level's sources lead to
  module _ (W : Source → Source) where
    wired-end : (ss : List Source) → ((s : Source) → SourceEnds (W s)) → AllEnd (map W ss)
    wired-end [] h = tt
    wired-end (s ∷ ss) h = (h s, wired-end ss h)

    wired_guards-end : (gs : List Guard) → ((s : Source) → SourceEnds (W s)) → GuardsEnd (map (wire_guard W) gs)
    wired_guards-end [] h = tt
    wired_guards-end (g ∷ gs) h = (h g.source, wired_guards-end gs h)

    ready-end : (done : ℕ → Bool) → ((s : Source) → source_ready done s ≡ true → SourceEnds (W s)) → (ss : List Source) → sources_ready done ss ≡ true → AllEnd (map W ss)
    ready-end done h [] e = tt
    ready-end done h (s ∷ ss) e = (h s (and-left (source_ready done s) (sources_ready done ss) e), ready-end done h ss (and-right (source_ready done s) (sources_ready done ss) e))

    ready_guards-end : (done : ℕ → Bool) → ((s : Source) → source_ready done s ≡ true → SourceEnds (W s)) → (gs : List Guard) → guards_ready done gs ≡ true → GuardsEnd (map (wire_guard W) gs)
    ready_guards-end done h [] e = tt
    ready_guards-end done h (g ∷ gs) e = (
      h g.source (and-left (source_ready done g.source) (guards_ready done gs) e),
      ready_guards-end done h gs (and-right (source_ready done g.source) (guards_ready done gs) e),
    )

  at-own : (own : List Source) (k : ℕ) → AllEnd own → SourceEnds (slice_index_or own k nowhere)
  at-own [] k h = tt
  at-own (s ∷ own) zero h = h.0
  at-own (s ∷ own) (suc k) h = at-own own k h.1

  at-output : (g : Source → Source) (outs : List Source) (p : ℕ) → ((s : Source) → SourceEnds (g s)) → SourceEnds (slice_index_or (map g outs) p nowhere)
  at-output g [] p h = tt
  at-output g (s ∷ outs) zero h = h s
  at-output g (s ∷ outs) (suc p) h = at-output g outs p h

  abbrev Leads : Vertices → Type 0
  Leads us = (own : List Source) (b : ℕ) (at : Path → Path) → IsAcyclic (nodes us) → AllEnd own → Placed b (inlined_level own b at us) → (s : Source) → SourceEnds (wire (wirings b us) own s)

  -- round by round
  lead-rounds : (us : Vertices) (own : List Source) (b : ℕ) → IsAcyclic (nodes us) → AllEnd own
      → ((done : ℕ → Bool) → ((s : Source) → source_ready done s ≡ true → SourceEnds (wire (wirings b us) own s)) → (r : ℕ) → with_node (slice_get (nodes us) r) false (is_ready done) ≡ true → (p : ℕ)
      → SourceEnds (with_wiring (slice_get (wirings b us) r) nowhere (λ w. w.gives (map (wire (wirings b us) own) w.asked) p)))
      → (k : ℕ) (s : Source) → source_ready (settled (nodes us) k) s ≡ true → SourceEnds (wire (wirings b us) own s)
  lead-rounds us own b acyclic fed each k (Own j) h = at-own own j fed
  lead-rounds us own b acyclic fed each zero (Of r p) h = absurd (false≢true h)
  lead-rounds us own b acyclic fed each (suc k) (Of r p) h =
      subst SourceEnds (wire_fix own (wirings b us) (nodes us) (matched b us) acyclic r p) (each (settled (nodes us) k) (lead-rounds us own b acyclic fed each k) r h p)

  lead-level : (us : Vertices) (own : List Source) (b : ℕ) → IsAcyclic (nodes us) → AllEnd own
      → ((done : ℕ → Bool) → ((s : Source) → source_ready done s ≡ true → SourceEnds (wire (wirings b us) own s)) → (r : ℕ) → with_node (slice_get (nodes us) r) false (is_ready done) ≡ true → (p : ℕ)
      → SourceEnds (with_wiring (slice_get (wirings b us) r) nowhere (λ w. w.gives (map (wire (wirings b us) own) w.asked) p)))
      → (s : Source) → SourceEnds (wire (wirings b us) own s)
  lead-level us own b acyclic fed each (Own k) = at-own own k fed
  lead-level us own b acyclic fed each (Of r p) = elim (cases_lt r (length (nodes us))) [
    | inl lt ↦ lead-rounds us own b acyclic fed each (length (nodes us)) (Of r p) (acyclic r lt)
    | inr past ↦ subst SourceEnds (wire_fix own (wirings b us) (nodes us) (matched b us) acyclic r p) (none (wire (wirings b us) own) b us r p past)
  ]
    where
      none : (w : Source → Source) (b : ℕ) (us : Vertices) (r p : ℕ) → length (nodes us) ≤ r → SourceEnds (with_wiring (slice_get (wirings b us) r) nowhere (λ x. x.gives (map w x.asked) p))
      none w b no_vertices r p h = tt
      none w b (and_vertex u us) zero p h = absurd (omega arith)
      none w b (and_vertex u us) (suc r) p h = none w (b + count u) us r p (omega arith)

  module _ (W : Source → Source) (b : ℕ) (at : Path → Path) (l : Label) (us : Vertices) (leads : Leads us) where
    abbrev inside : List Source → ℕ → (Path → Path) → List Operation
    inside own c below' = inlined_all (wire (wirings c us) own) c below' us

    lead-by : (k : Kind) → Placed b (inlined_by W b at l k inside) → IsKindInlinable k l.guards (nodes us) → GuardsEnd (map (wire_guard W) l.guards) → AllEnd (map W (asked_by k l.ins)) → (p : ℕ)
        → SourceEnds (gives_by b k (λ c. wirings c us) (map W (asked_by k l.ins)) p)
    lead-by (graph outs) m h g a p = at-output _ outs p (leads (map W l.ins) b (λ q. at (l.part ∷ q)) h.1.0 a m)
    lead-by (switch values names) m h g a p = absurd h
    lead-by (repeat n feeds gives) m h g a p = absurd h
    lead-by (delay []) m h g a p = absurd (omega (arith, h))
    lead-by (delay (v ∷ vs)) m h g a p = op-ends b (operation_of W (at (l.part ∷ [])) 0 l [] l.outs (gets v)) m.0 g a
    lead-by (sensor n) m h g a p = op-ends b (operation_of W (at (l.part ∷ [])) 0 l (map W l.ins) l.outs (runs (sensor n))) m.0 g a
    lead-by (actuator n) m h g a p = op-ends b (operation_of W (at (l.part ∷ [])) 0 l (map W l.ins) l.outs (runs (actuator n))) m.0 g a
    lead-by (constant v) m h g a p = op-ends b (operation_of W (at (l.part ∷ [])) 0 l (map W l.ins) l.outs (runs (constant v))) m.0 g a
    lead-by (function es) m h g a p = op-ends b (operation_of W (at (l.part ∷ [])) 0 l (map W l.ins) l.outs (runs (function es))) m.0 g a
    lead-by explode m h g a p = op-ends b (operation_of W (at (l.part ∷ [])) 0 l (map W l.ins) l.outs (runs explode)) m.0 g a
    lead-by implode m h g a p = op-ends b (operation_of W (at (l.part ∷ [])) 0 l (map W l.ins) l.outs (runs implode)) m.0 g a
    lead-by (merge values) m h g a p = op-ends b (operation_of W (at (l.part ∷ [])) 0 l (map W l.ins) l.outs (runs (merge values))) m.0 g a

  mutual
    lead-vertex : (W : Source → Source) (b : ℕ) (at : Path → Path) (u : Vertex) → CanInline u → Placed b (inlined W b at u)
        → GuardsEnd (map (wire_guard W) (node u).guards) → AllEnd (map W (node u).asked) → (p : ℕ)
        → SourceEnds ((wiring b u).gives (map W (wiring b u).asked) p)
    lead-vertex W b at (vertex l us) h m g a p =
        lead-by W b at l us (λ own c at' acyclic fed placed. lead-level us own c acyclic fed (lead-all (wire (wirings c us) own) c at' us h.1 placed)) l.kind m h.0 g a p

    lead-all : (W : Source → Source) (b : ℕ) (at : Path → Path) (us : Vertices) → AllCanInline us → Placed b (inlined_all W b at us)
        → (done : ℕ → Bool) → ((s : Source) → source_ready done s ≡ true → SourceEnds (W s)) → (r : ℕ) → with_node (slice_get (nodes us) r) false (is_ready done) ≡ true → (p : ℕ)
        → SourceEnds (with_wiring (slice_get (wirings b us) r) nowhere (λ w. w.gives (map W w.asked) p))
    lead-all W b at no_vertices h m done ih r ready p = absurd (false≢true ready)
    lead-all W b at (and_vertex u us) h m done ih zero ready p =
        lead-vertex W b at u h.0 (placed-left b (inlined W b at u) _ m)
        (ready_guards-end W done ih (node u).guards (and-left (guards_ready done (node u).guards) (sources_ready done (node u).asked) ready))
        (ready-end W done ih (node u).asked (and-right (guards_ready done (node u).guards) (sources_ready done (node u).asked) ready)) p
    lead-all W b at (and_vertex u us) h m done ih (suc r) ready p =
        lead-all W (b + count u) at us h.1 (subst (λ n. Placed (b + n) (inlined_all W (b + count u) at us)) (long-inlined W b at u h.0) (placed-right b (inlined W b at u) _ m)) done ih r ready p

  leads-all : (us : Vertices) → AllCanInline us → Leads us
  leads-all us h own b at acyclic fed placed = lead-level us own b acyclic fed (lead-all (wire (wirings b us) own) b at us h placed)

  -- each operation, where all sources of its level lead to an end
  abbrev pub EachEnds : ℕ → List Operation → Type 0
  EachEnds b [] = Unit {0}
  EachEnds b (op ∷ ops) = Ends F b × EachEnds (suc b) ops

  each-append : (b : ℕ) (xs ys : List Operation) → EachEnds b xs → EachEnds (b + length xs) ys → EachEnds b (xs ++ ys)
  each-append b [] ys h k = subst (λ m. EachEnds m ys) (omega arith) k
  each-append b (x ∷ xs) ys h k = (h.0, each-append (suc b) xs ys h.1 (subst (λ m. EachEnds m ys) (omega arith) k))

  module _ (W : Source → Source) (b : ℕ) (at : Path → Path) (l : Label) (us : Vertices) (all : (s : Source) → SourceEnds (W s)) where
    abbrev inside2 : List Source → ℕ → (Path → Path) → List Operation
    inside2 own c below' = inlined_all (wire (wirings c us) own) c below' us

    -- a get half asks for no input, a set half for the get half of the stage after it or for the delay's input
    behind-ends : (c i : ℕ) (vs : List Vector) → Placed (c + 2) (stages W (c + 2) (at (l.part ∷ [])) l (suc i) vs) → AllEnd (stage_input c (map W l.ins) vs)
    behind-ends c i [] m = wired-end W l.ins all
    behind-ends c i (v ∷ vs) m = (op-ends (c + 2) (operation_of W (at (l.part ∷ [])) (suc i) l [] l.outs (gets v)) m.0 (wired_guards-end W l.guards all) tt, tt)

    each-stages : (c i : ℕ) (vs : List Vector) → Placed c (stages W c (at (l.part ∷ [])) l i vs) → EachEnds c (stages W c (at (l.part ∷ [])) l i vs)
    each-stages c i [] m = tt
    each-stages c i (v ∷ vs) m =
        let two : suc (suc c) ≡ c + 2 = omega arith in
        let rest = subst (λ n. Placed n (stages W (c + 2) (at (l.part ∷ [])) l (suc i) vs)) two m.1.1 in (
          op-ends c (operation_of W (at (l.part ∷ [])) i l [] l.outs (gets v)) m.0 (wired_guards-end W l.guards all) tt,
          (
            op-ends (suc c) (operation_of W (at (l.part ∷ [])) i l (stage_input c (map W l.ins) vs) [] sets) m.1.0 (wired_guards-end W l.guards all) (behind-ends c i vs rest),
            subst (λ n. EachEnds n (stages W (c + 2) (at (l.part ∷ [])) l (suc i) vs)) (sym two) (each-stages (c + 2) (suc i) vs rest),
          ),
        )

    each-by : (leads : Leads us) → ((own : List Source) (c : ℕ) (at' : Path → Path)
        → ((s : Source) → SourceEnds (wire (wirings c us) own s)) → Placed c (inside2 own c at') → EachEnds c (inside2 own c at'))
        → (k : Kind) → Placed b (inlined_by W b at l k inside2) → IsKindInlinable k l.guards (nodes us) → EachEnds b (inlined_by W b at l k inside2)
    each-by leads deeper (graph outs) m h = deeper (map W l.ins) b (λ q. at (l.part ∷ q)) (leads (map W l.ins) b (λ q. at (l.part ∷ q)) h.1.0 (wired-end W l.ins all) m) m
    each-by leads deeper (switch values names) m h = absurd h
    each-by leads deeper (repeat n feeds gives) m h = absurd h
    each-by leads deeper (delay vs) m h = each-stages b 0 vs m
    each-by leads deeper (sensor n) m h = (op-ends b (operation_of W (at (l.part ∷ [])) 0 l (map W l.ins) l.outs (runs (sensor n))) m.0 (wired_guards-end W l.guards all) (wired-end W l.ins all), tt)
    each-by leads deeper (actuator n) m h = (
      op-ends b (operation_of W (at (l.part ∷ [])) 0 l (map W l.ins) l.outs (runs (actuator n))) m.0 (wired_guards-end W l.guards all)
          (wired-end W l.ins all),
      tt,
    )
    each-by leads deeper (constant v) m h = (
      op-ends b (operation_of W (at (l.part ∷ [])) 0 l (map W l.ins) l.outs (runs (constant v))) m.0 (wired_guards-end W l.guards all)
          (wired-end W l.ins all),
      tt,
    )
    each-by leads deeper (function es) m h = (
      op-ends b (operation_of W (at (l.part ∷ [])) 0 l (map W l.ins) l.outs (runs (function es))) m.0 (wired_guards-end W l.guards all)
          (wired-end W l.ins all),
      tt,
    )
    each-by leads deeper explode m h = (op-ends b (operation_of W (at (l.part ∷ [])) 0 l (map W l.ins) l.outs (runs explode)) m.0 (wired_guards-end W l.guards all) (wired-end W l.ins all), tt)
    each-by leads deeper implode m h = (op-ends b (operation_of W (at (l.part ∷ [])) 0 l (map W l.ins) l.outs (runs implode)) m.0 (wired_guards-end W l.guards all) (wired-end W l.ins all), tt)
    each-by leads deeper (merge values) m h = (
      op-ends b (operation_of W (at (l.part ∷ [])) 0 l (map W l.ins) l.outs (runs (merge values))) m.0 (wired_guards-end W l.guards all)
          (wired-end W l.ins all),
      tt,
    )

  mutual
    each-vertex : (W : Source → Source) (b : ℕ) (at : Path → Path) (u : Vertex) → CanInline u → ((s : Source) → SourceEnds (W s)) → Placed b (inlined W b at u) → EachEnds b (inlined W b at u)
    each-vertex W b at (vertex l us) h all m =
        each-by W b at l us all (leads-all us h.1) (λ own c at' ends' placed. each-all (wire (wirings c us) own) c at' us h.1 ends' placed) l.kind m h.0

    pub each-all : (W : Source → Source) (b : ℕ) (at : Path → Path) (us : Vertices) → AllCanInline us → ((s : Source) → SourceEnds (W s))
        → Placed b (inlined_all W b at us) → EachEnds b (inlined_all W b at us)
    each-all W b at no_vertices h all m = tt
    each-all W b at (and_vertex u us) h all m =
        let long = long-inlined W b at u h.0 in
        each-append b (inlined W b at u) _ (each-vertex W b at u h.0 all (placed-left b (inlined W b at u) _ m))
        (subst (λ n. EachEnds (b + n) (inlined_all W (b + count u) at us)) (sym long)
        (each-all W (b + count u) at us h.1 all (subst (λ n. Placed (b + n) (inlined_all W (b + count u) at us)) long (placed-right b (inlined W b at u) _ m))))

  pub each-at : (b : ℕ) (ops : List Operation) → EachEnds b ops → (i : ℕ) → i < length ops → Ends F (b + i)
  each-at b [] h i lt = absurd (omega arith)
  each-at b (op ∷ ops) h zero lt = subst (Ends F) (omega arith) h.0
  each-at b (op ∷ ops) h (suc i) lt = subst (Ends F) (omega arith) (each-at (suc b) ops h.1 i (omega arith))

  pub each-level : (own : List Source) (b : ℕ) (at : Path → Path) (us : Vertices) → AllCanInline us → IsAcyclic (nodes us) → AllEnd own
      → Placed b (inlined_level own b at us) → EachEnds b (inlined_level own b at us)
  each-level own b at us h acyclic fed m = each-all (wire (wirings b us) own) b at us h (leads-all us h own b at acyclic fed m) m
