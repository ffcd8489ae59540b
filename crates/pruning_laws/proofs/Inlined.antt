-- Following an edge into a unit without operations ends at the source of the input to which the output leads: so a
-- pruned tree has the flat list of the tree.
use mathlib.Core.Path.{fun_ext}
use Rattle.std.proofs.Common.{◌≡◌, ℕ, zero, suc, ◌+◌, ◌==◌, List, [], ◌∷◌, ◌++◌, length, map, slice_index_or, Bool, true, false, cond, Option, Some, None, slice_get, refl, sym, ap, ap₂, ◌∙◌, arith}
use Rattle.std.proofs.lemmas.Bool.{eqb-true}
use Rattle.algo_tree.specs.declared.Source.{Source}
use Rattle.algo_tree.specs.Level.{Path}
use Rattle.algo_tree.specs.Tree.{Label, Kind, sensor, actuator, constant, delay, function, explode, implode, merge, graph, switch, repeat, Vertex, vertex, Vertices, no_vertices, and_vertex}
use Rattle.algo_tree.specs.Counted.{operations, operations_in, operations_by}
use Rattle.algo_tree.specs.Meaning.{asked_by, nodes}
use Rattle.flat_laws.specs.Plain.{IsKindPlain, IsPlain, AllPlain}
use Rattle.flat_laws.specs.Inlined as flat
use Rattle.flat_laws.specs.Inlined.{nowhere, Wiring, with_wiring, gives_by, wirings, inlined_by, inlined, inlined_all}
use Rattle.flat_laws.proofs.Wires.{wire_fix, long-plain, long-plain_all}
use Rattle.flat_laws.proofs.Wires as lists
use Rattle.wiring_laws.specs.Wiring.{pick, lead, leads_by, wiring, wire, wires}
use Rattle.wiring_laws.specs.Pruned.{own_of, passing, prune, prune_all}
use Rattle.wiring_laws.proofs.Rounds.{at-map, hop, leads}
use Rattle.wiring_laws.proofs.Idle.{IsKindIdle, IsIdle, AllIdle, matched}
use Rattle.wiring_laws.proofs.Values.{map-pick}
use Rattle.wiring_laws.proofs.Prunable.{AllSome, CanPrune, AllCanPrune, counted-prune}

same-asked : (k : Kind) (us : Vertices) (ss : List Source) → IsKindIdle k us → asked_by k ss ≡ ss
same-asked (graph outs) us ss h = refl
same-asked (switch values names) us ss h = refl
same-asked (repeat n feeds gives) us ss h = refl
same-asked (sensor n) us ss h = refl
same-asked (actuator n) us ss h = refl
same-asked (constant v) us ss h = refl
same-asked (delay vs) us ss h = absurd h
same-asked (function es) us ss h = refl
same-asked explode us ss h = refl
same-asked implode us ss h = refl
same-asked (merge values) us ss h = refl

module _ (us : Vertices) (inner : AllIdle us)
    (each : (first : ℕ) (look : Source → Source) (r p : ℕ)
    → with_wiring (slice_get (wirings first us) r) nowhere (λ w. w.gives (map look w.asked) p) ≡ hop nowhere look (wires us) r p) where
  gives-by : (k : Kind) → IsKindIdle k us → IsKindPlain k → (first : ℕ) (own : List Source) (p : ℕ)
      → gives_by first k (λ c. wirings c us) own p ≡ pick nowhere own (slice_index_or (leads_by k (wires us)) p None)
  gives-by (graph outs) h plain first own p =
      ap (λ ss. slice_index_or ss p nowhere)
      (map-pick nowhere own Source (flat.wire (wirings first us) own) (lead (wires us)) outs
      (leads nowhere own (flat.wire (wirings first us) own) (wires us) (nodes us) (matched us inner) (λ k. refl)
      (λ r p. sym (wire_fix own (wirings first us) (nodes us) (lists.matched first us) h r p) ∙ each first (flat.wire (wirings first us) own) r p) h))
      ∙ at-map (pick nowhere own) None (map (lead (wires us)) outs) p
  gives-by (switch values names) h plain first own p = absurd plain
  gives-by (repeat n feeds gives) h plain first own p = absurd plain
  gives-by (sensor n) h plain first own p = absurd h
  gives-by (actuator n) h plain first own p = absurd h
  gives-by (constant v) h plain first own p = absurd h
  gives-by (delay vs) h plain first own p = absurd h
  gives-by (function es) h plain first own p = absurd h
  gives-by explode h plain first own p = absurd h
  gives-by implode h plain first own p = absurd h
  gives-by (merge values) h plain first own p = absurd h

asked-flat : (first : ℕ) (u : Vertex) → IsIdle u → (flat.wiring first u).asked ≡ (wire u).ins
asked-flat first (vertex l us) h = same-asked l.kind us l.ins h.0.1

mutual
  -- where an output of a unit without operations leads in the flat list
  pub gives-idle : (u : Vertex) → IsIdle u → IsPlain u → (first : ℕ) (own : List Source) (p : ℕ) → (flat.wiring first u).gives own p ≡ pick nowhere own (slice_index_or (wiring u) p None)
  gives-idle (vertex l us) h plain = gives-by us h.1 (λ first look r p. each-gives us h.1 plain.1 first look r p) l.kind h.0.1 plain.0

  each-gives : (us : Vertices) → AllIdle us → AllPlain us → (first : ℕ) (look : Source → Source) (r p : ℕ)
      → with_wiring (slice_get (wirings first us) r) nowhere (λ w. w.gives (map look w.asked) p) ≡ hop nowhere look (wires us) r p
  each-gives no_vertices h plain first look r p = refl
  each-gives (and_vertex u us) h plain first look zero p =
      gives-idle u h.0 plain.0 first (map look (flat.wiring first u).asked) p ∙ ap (λ ss. pick nowhere (map look ss) (slice_index_or (wiring u) p None)) (asked-flat first u h.0)
  each-gives (and_vertex u us) h plain first look (suc r) p = each-gives us h.1 plain.1 (first + operations u) look r p

-- a graph that passes inputs on
passed : (own : List Source) (os : List (Option ℕ)) → AllSome os → map (flat.wire [] own) (map own_of os) ≡ map (pick nowhere own) os
passed own [] h = refl
passed own (None ∷ os) h = absurd h
passed own (Some k ∷ os) h = ap (λ ss. slice_index_or own k nowhere ∷ ss) (passed own os h)

wiring-either : (first : ℕ) (l : Label) (us : Vertices)
    → (operations (vertex l us) ≡ 0 → IsIdle (vertex l us) × AllSome (wiring (vertex l us))) → IsPlain (vertex l us)
    → ((c : ℕ) → wirings c (prune_all us) ≡ wirings c us)
    → (b : Bool) → (operations (vertex l us) == 0) ≡ b → flat.wiring first (cond b (passing l (wiring (vertex l us))) (vertex l (prune_all us))) ≡ flat.wiring first (vertex l us)
wiring-either first l us h plain inner true e =
    let known = h (eqb-true (operations (vertex l us)) 0 e) in
    let same : (own : List Source) (p : ℕ) → (flat.wiring first (passing l (wiring (vertex l us)))).gives own p ≡ (flat.wiring first (vertex l us)).gives own p =
    λ own p.
    ap (λ ss. slice_index_or ss p nowhere) (passed own (wiring (vertex l us)) known.1) ∙ at-map (pick nowhere own) None (wiring (vertex l us)) p
    ∙ sym (gives-idle (vertex l us) known.0 plain first own p) in
    ap₂ (λ ss f. record { asked = ss; gives = f }) (sym (same-asked l.kind us l.ins known.0.0.1)) (fun_ext (λ own. fun_ext (λ p. same own p)))
wiring-either first l us h plain inner false e = ap (λ f. record { asked = asked_by l.kind l.ins; gives = gives_by first l.kind f }) (fun_ext inner)

mutual
  pub wiring-prune : (first : ℕ) (u : Vertex) → CanPrune u → IsPlain u → flat.wiring first (prune u) ≡ flat.wiring first u
  wiring-prune first (vertex l us) h plain = wiring-either first l us h.0 plain (λ c. wirings-prune c us h.1 plain.1) (operations (vertex l us) == 0) refl

  pub wirings-prune : (first : ℕ) (us : Vertices) → AllCanPrune us → AllPlain us → wirings first (prune_all us) ≡ wirings first us
  wirings-prune first no_vertices h plain = refl
  wirings-prune first (and_vertex u us) h plain =
      ap₂ (λ w ws. w ∷ ws) (wiring-prune first u h.0 plain.0)
      (ap (λ n. wirings (first + n) (prune_all us)) (counted-prune u) ∙ wirings-prune (first + operations u) us h.1 plain.1)

nothing : {A : Type 0} (xs : List A) → length xs ≡ 0 → xs ≡ []
nothing [] h = refl
nothing (x ∷ xs) h = absurd (omega (arith, h))

inlined-either : (w : Source → Source) (first : ℕ) (at : Path → Path) (l : Label) (us : Vertices) → IsPlain (vertex l us)
    → ((own : List Source) (c : ℕ) (under : Path → Path) → inlined_all (flat.wire (wirings c (prune_all us)) own) c under (prune_all us) ≡ inlined_all (flat.wire (wirings c us) own) c under us)
    → (b : Bool) → (operations (vertex l us) == 0) ≡ b → inlined w first at (cond b (passing l (wiring (vertex l us))) (vertex l (prune_all us))) ≡ inlined w first at (vertex l us)
inlined-either w first at l us plain inner true e = sym (nothing (inlined w first at (vertex l us)) (long-plain w first at (vertex l us) plain ∙ eqb-true (operations (vertex l us)) 0 e))
inlined-either w first at l us plain inner false e = ap (inlined_by w first at l l.kind) (fun_ext (λ own. fun_ext (λ c. fun_ext (λ under. inner own c under))))

mutual
  pub inlined-prune : (w : Source → Source) (first : ℕ) (at : Path → Path) (u : Vertex) → CanPrune u → IsPlain u → inlined w first at (prune u) ≡ inlined w first at u
  inlined-prune w first at (vertex l us) h plain =
      inlined-either w first at l us plain
      (λ own c under. ap (λ ws. inlined_all (flat.wire ws own) c under (prune_all us)) (wirings-prune c us h.1 plain.1) ∙ inlined-prune_all (flat.wire (wirings c us) own) c under us h.1 plain.1)
      (operations (vertex l us) == 0) refl

  pub inlined-prune_all : (w : Source → Source) (first : ℕ) (at : Path → Path) (us : Vertices) → AllCanPrune us → AllPlain us → inlined_all w first at (prune_all us) ≡ inlined_all w first at us
  inlined-prune_all w first at no_vertices h plain = refl
  inlined-prune_all w first at (and_vertex u us) h plain =
      ap₂ (λ xs ys. xs ++ ys) (inlined-prune w first at u h.0 plain.0)
      (ap (λ n. inlined_all w (first + n) at (prune_all us)) (counted-prune u) ∙ inlined-prune_all w (first + operations u) at us h.1 plain.1)

inside-none : (k : Kind) (us : Vertices) (n : ℕ) → IsKindIdle k us → IsKindPlain k → operations_by k n ≡ 0 → n ≡ 0
inside-none (graph outs) us n h plain e = e
inside-none (switch values names) us n h plain e = absurd plain
inside-none (repeat m feeds gives) us n h plain e = absurd plain
inside-none (sensor m) us n h plain e = absurd h
inside-none (actuator m) us n h plain e = absurd h
inside-none (constant v) us n h plain e = absurd h
inside-none (delay vs) us n h plain e = absurd h
inside-none (function es) us n h plain e = absurd h
inside-none explode us n h plain e = absurd h
inside-none implode us n h plain e = absurd h
inside-none (merge values) us n h plain e = absurd h

list-either : (l : Label) (us : Vertices) → CanPrune (vertex l us) → IsPlain (vertex l us) → (b : Bool) → (operations (vertex l us) == 0)
    ≡ b → flat.operations (cond b (passing l (wiring (vertex l us))) (vertex l (prune_all us))) ≡ flat.operations (vertex l us)
list-either l us h plain true e =
    let none = eqb-true (operations (vertex l us)) 0 e in
    sym (nothing (inlined_all (flat.wire (wirings 0 us) []) 0 (λ q. q) us)
    (long-plain_all (flat.wire (wirings 0 us) []) 0 (λ q. q) us plain.1 ∙ inside-none l.kind us (operations_in us) ((h.0 none).0.0.1) plain.0 none))
list-either l us h plain false e =
    ap (λ ws. inlined_all (flat.wire ws []) 0 (λ q. q) (prune_all us)) (wirings-prune 0 us h.1 plain.1) ∙ inlined-prune_all (flat.wire (wirings 0 us) []) 0 (λ q. q) us h.1 plain.1

pub list-prune : (u : Vertex) → CanPrune u → IsPlain u → flat.operations (prune u) ≡ flat.operations u
list-prune (vertex l us) h plain = list-either l us h plain (operations (vertex l us) == 0) refl
