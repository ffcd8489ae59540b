-- A guarded tree is well again.
use Rattle.std.proofs.Common.{◌≡◌, ℤ, ℕ, zero, suc, List, [], ◌∷◌, ◌++◌, length, map, Bool, true, false, ◌&&◌, slice_get, refl, sym, ap, ap₂, ◌∙◌, subst, arith}
use mathlib.Core.Path.{fun_ext}
use Rattle.algo_tree.specs.declared.Source.{Source}
use Rattle.algo_tree.specs.declared.Source.TheVariants.{Own, Of}
use Rattle.algo_tree.specs.declared.Guard.{Guard}
use Rattle.algo_tree.specs.declared.Part.{Part}
use Rattle.algo_tree.specs.declared.Part.TheVariants.{Named, Numbered, Port}
use Rattle.algo_tree.specs.Level.{Node, same_part, with_node}
use Rattle.algo_tree.specs.Order.{source_ready, sources_ready, guards_ready, is_ready, settled, IsAcyclic}
use Rattle.algo_tree.specs.Parts.{IsApart, HasDistinctParts}
use Rattle.algo_tree.specs.Tree.{Label, Kind, sensor, actuator, constant, delay, function, explode, implode, merge, graph, switch, repeat, Vertex, vertex, Vertices, no_vertices, and_vertex}
use Rattle.algo_tree.specs.Code.{count_of, join}
use Rattle.algo_tree.specs.Meaning.{asked_by, node, nodes}
use Rattle.algo_tree.specs.Well.{IsNewName, AreDistinctNames, IsNumberedPart, AreNumbered, IsOwn, OwnGuards, AreCases, IsKindWell, IsWell, AllWell}
use Rattle.algo_tree.specs.NoRepeat.{IsNoRepeat, HasNoRepeat, AllNoRepeat}
use Rattle.algo_tree.specs.Relabelled.{with_kind}
use Rattle.algo_tree.proofs.Parts.{AllApart, distinct-append}
use Rattle.flat_laws.specs.Guarded.{
  shift,
  shift_guard,
  guard_sources,
  own_guards,
  guard_for,
  merges,
  merge_sources,
  switch_inside,
  operation_under,
  graph_under,
  guarded_by,
  guarded,
  guarded_all,
  guarded_cases,
}
use Rattle.flat_laws.proofs.Guards.{AllUnder}
use Rattle.flat_laws.proofs.Cases.{CasesUnder, cases_level-acyclic}
use Rattle.flat_laws.proofs.Guard.{own-own, asked-map, nodes-joined, count-nodes, under-all, under-cases}

-- The same nodes are ready in each round, so that a level without a cycle has none afterwards.
abbrev Ready : Node → Node → Type 0
Ready c d = (done : ℕ → Bool) → is_ready done d ≡ is_ready done c

abbrev AllReady : List Node → List Node → Type 0
AllReady [] [] = Unit {0}
AllReady [] (d ∷ ds) = ⊥
AllReady (c ∷ cs) [] = ⊥
AllReady (c ∷ cs) (d ∷ ds) = Ready c d × AllReady cs ds

ready-at : (cs ds : List Node) → AllReady cs ds → (done : ℕ → Bool) (r : ℕ) → with_node (slice_get ds r) false (is_ready done) ≡ with_node (slice_get cs r) false (is_ready done)
ready-at [] [] h done r = refl
ready-at [] (d ∷ ds) h done r = absurd h
ready-at (c ∷ cs) [] h done r = absurd h
ready-at (c ∷ cs) (d ∷ ds) h done zero = h.0 done
ready-at (c ∷ cs) (d ∷ ds) h done (suc r) = ready-at cs ds h.1 done r

settled-same : (cs ds : List Node) → AllReady cs ds → (k : ℕ) → settled ds k ≡ settled cs k
settled-same cs ds h zero = fun_ext (λ r. refl)
settled-same cs ds h (suc k) = fun_ext (λ r. ap (λ (done : ℕ → Bool). with_node (slice_get ds r) false (is_ready done)) (settled-same cs ds h k) ∙ ready-at cs ds h (settled cs k) r)

ready-length : (cs ds : List Node) → AllReady cs ds → length ds ≡ length cs
ready-length [] [] h = refl
ready-length [] (d ∷ ds) h = absurd h
ready-length (c ∷ cs) [] h = absurd h
ready-length (c ∷ cs) (d ∷ ds) h = ap suc (ready-length cs ds h.1)

acyclic-same : (cs ds : List Node) → AllReady cs ds → IsAcyclic cs → IsAcyclic ds
acyclic-same cs ds h acyclic r lt =
    let e = ready-length cs ds h in
    subst (λ (b : Bool). b ≡ true) (sym (ap (λ n. settled ds n r) e ∙ ap (λ (s : ℕ → Bool). s r) (settled-same cs ds h (length cs)))) (acyclic r (omega (arith, e, lt)))

module _ (done : ℕ → Bool) where
  own-ready : (s : Source) → IsOwn s → source_ready done s ≡ true
  own-ready (Own k) h = refl
  own-ready (Of r p) h = absurd h

  guards-ready : (gs hs : List Guard) (n : ℕ) → OwnGuards gs → guards_ready done (gs ++ map (shift_guard n) hs) ≡ guards_ready done hs
  guards-ready [] [] n h = refl
  guards-ready [] (g ∷ hs) n h = ap₂ (λ a b. a && b) (shifted g.source) (guards-ready [] hs n h)
    where
      shifted : (s : Source) → source_ready done (shift n s) ≡ source_ready done s
      shifted (Own k) = refl
      shifted (Of r p) = refl
  guards-ready (g ∷ gs) hs n h = ap (λ a. a && guards_ready done (gs ++ map (shift_guard n) hs)) (own-ready g.source h.0) ∙ guards-ready gs hs n h.1

  sources-ready : (ss : List Source) (n : ℕ) → sources_ready done (map (shift n) ss) ≡ sources_ready done ss
  sources-ready [] n = refl
  sources-ready (Own k ∷ ss) n = sources-ready ss n
  sources-ready (Of r p ∷ ss) n = ap (λ b. done r && b) (sources-ready ss n)

  handed-ready : (gs : List Guard) (ss : List Source) → OwnGuards gs → sources_ready done (guard_sources gs ++ ss) ≡ sources_ready done ss
  handed-ready [] ss h = refl
  handed-ready (g ∷ gs) ss h = ap (λ a. a && sources_ready done (guard_sources gs ++ ss)) (own-ready g.source h.0) ∙ handed-ready gs ss h.1

ready-operation : (gs : List Guard) (n : ℕ) (l : Label) (k : Kind) (us : Vertices) → OwnGuards gs → Ready (node (vertex (with_kind l k) us)) (node (operation_under gs n l k))
ready-operation gs n l k us own done =
    ap₂ (λ a b. a && b) (guards-ready done gs l.guards n own) (ap (sources_ready done) (asked-map k (shift n) l.ins) ∙ sources-ready done (asked_by k l.ins) n)

ready-graph : (gs : List Guard) (n : ℕ) (l : Label) (outs : List Source) (vs : Vertices) (done : ℕ → Bool) → OwnGuards gs → l.guards ≡ []
    → is_ready done (node (graph_under gs n l outs vs)) ≡ (guards_ready done l.guards && sources_ready done l.ins)
ready-graph gs n l outs vs done own none = handed-ready done gs (map (shift n) l.ins) own ∙ sources-ready done l.ins n ∙ sym (ap (λ hs. guards_ready done hs && sources_ready done l.ins) none)

ready-by : (gs : List Guard) (n : ℕ) (l : Label) (k : Kind) (us : Vertices) (inner : List Guard → ℕ → Vertices) (cases : List Guard → ℕ → List ℤ → Vertices) → OwnGuards gs → IsKindWell k l.guards us
    → Ready (node (vertex (with_kind l k) us)) (node (guarded_by gs n l k us inner cases))
ready-by gs n l (graph outs) us inner cases own h done = ready-graph gs n l (map (shift (length gs)) outs) (inner (own_guards 0 gs) (length gs)) done own h.0
ready-by gs n l (switch values names) us inner cases own h done =
    ready-graph gs n l (merge_sources (count_of us) (length names)) (switch_inside gs l values names (count_of us) (cases (own_guards 0 gs) (length gs) values)) done own h.0.0
ready-by gs n l (repeat m feeds gives) us inner cases own h done = ready-operation gs n l (repeat m feeds gives) us own done
ready-by gs n l (sensor m) us inner cases own h done = ready-operation gs n l (sensor m) us own done
ready-by gs n l (actuator m) us inner cases own h done = ready-operation gs n l (actuator m) us own done
ready-by gs n l (constant v) us inner cases own h done = ready-operation gs n l (constant v) us own done
ready-by gs n l (delay v) us inner cases own h done = ready-operation gs n l (delay v) us own done
ready-by gs n l (function es) us inner cases own h done = ready-operation gs n l (function es) us own done
ready-by gs n l explode us inner cases own h done = ready-operation gs n l explode us own done
ready-by gs n l implode us inner cases own h done = ready-operation gs n l implode us own done
ready-by gs n l (merge values) us inner cases own h done = ready-operation gs n l (merge values) us own done

ready-guarded : (gs : List Guard) (n : ℕ) (u : Vertex) → OwnGuards gs → IsWell u → Ready (node u) (node (guarded gs n u))
ready-guarded gs n (vertex l us) own h = ready-by gs n l l.kind us (λ inside m. guarded_all inside m us) (λ inside m values. guarded_cases inside m values 0 us) own h.0

ready-all : (gs : List Guard) (n : ℕ) (us : Vertices) → OwnGuards gs → AllWell us → AllReady (nodes us) (nodes (guarded_all gs n us))
ready-all gs n no_vertices own h = tt
ready-all gs n (and_vertex u us) own h = (ready-guarded gs n u own h.0, ready-all gs n us own h.1)

-- distinct parts stay
apart-under : (p : Part) (gs : List Guard) (n : ℕ) (cs ds : List Node) → AllUnder gs n cs ds → IsApart p cs → IsApart p ds
apart-under p gs n [] [] h a = tt
apart-under p gs n [] (d ∷ ds) h a = absurd h
apart-under p gs n (c ∷ cs) [] h a = absurd h
apart-under p gs n (c ∷ cs) (d ∷ ds) h a = (ap (same_part p) h.0.part ∙ a.0, apart-under p gs n cs ds h.1 a.1)

distinct-under : (gs : List Guard) (n : ℕ) (cs ds : List Node) → AllUnder gs n cs ds → HasDistinctParts cs → HasDistinctParts ds
distinct-under gs n [] [] h a = tt
distinct-under gs n [] (d ∷ ds) h a = absurd h
distinct-under gs n (c ∷ cs) [] h a = absurd h
distinct-under gs n (c ∷ cs) (d ∷ ds) h a = (apart-under d.part gs n cs ds h.1 (subst (λ p. IsApart p cs) (sym h.0.part) a.0), distinct-under gs n cs ds h.1 a.1)

module _ (gs : List Guard) (m : ℕ) (values : List ℤ) where
  apart-cases : (p : Part) (i : ℕ) (cs ds : List Node) → CasesUnder gs m values i cs ds → IsApart p cs → IsApart p ds
  apart-cases p i [] [] h a = tt
  apart-cases p i [] (d ∷ ds) h a = absurd h
  apart-cases p i (c ∷ cs) [] h a = absurd h
  apart-cases p i (c ∷ cs) (d ∷ ds) h a = (ap (same_part p) h.0.0.part ∙ a.0, apart-cases p (suc i) cs ds h.1 a.1)

  distinct-cases : (i : ℕ) (cs ds : List Node) → CasesUnder gs m values i cs ds → HasDistinctParts cs → HasDistinctParts ds
  distinct-cases i [] [] h a = tt
  distinct-cases i [] (d ∷ ds) h a = absurd h
  distinct-cases i (c ∷ cs) [] h a = absurd h
  distinct-cases i (c ∷ cs) (d ∷ ds) h a = (apart-cases d.part (suc i) cs ds h.1 (subst (λ p. IsApart p cs) (sym h.0.0.part) a.0), distinct-cases (suc i) cs ds h.1 a.1)

  numbered-cases : (i : ℕ) (cs ds : List Node) → CasesUnder gs m values i cs ds → AreNumbered cs → AreNumbered ds
  numbered-cases i [] [] h a = tt
  numbered-cases i [] (d ∷ ds) h a = absurd h
  numbered-cases i (c ∷ cs) [] h a = absurd h
  numbered-cases i (c ∷ cs) (d ∷ ds) h a = (subst IsNumberedPart (sym h.0.0.part) a.0, numbered-cases (suc i) cs ds h.1 a.1)

  module _ (D : List ℕ) (k : ℕ) (lens : List ℕ) where
    abbrev kids : ℕ → List (List ℕ) → List Node
    kids q names = nodes (merges D gs m values k lens q names)

    port-merges : (x : List ℕ) (q : ℕ) (names : List (List ℕ)) → IsNewName x names → IsApart (Port x) (kids q names)
    port-merges x q [] h = tt
    port-merges x q (y ∷ names) h = (h.0, port-merges x (suc q) names h.1)

    distinct-merges : (q : ℕ) (names : List (List ℕ)) → AreDistinctNames names → HasDistinctParts (kids q names)
    distinct-merges q [] h = tt
    distinct-merges q (x ∷ names) h = (port-merges x (suc q) names h.0, distinct-merges (suc q) names h.1)

    number-merges : (p : Part) → IsNumberedPart p → (q : ℕ) (names : List (List ℕ)) → IsApart p (kids q names)
    number-merges p is q [] = tt
    number-merges (Numbered i) is q (x ∷ names) = (refl, number-merges (Numbered i) is (suc q) names)
    number-merges (Named y) is q (x ∷ names) = absurd is
    number-merges (Port y) is q (x ∷ names) = absurd is

    distinct-made : (ds : List Node) (names : List (List ℕ)) → HasDistinctParts ds → AreNumbered ds → AreDistinctNames names → HasDistinctParts (ds ++ kids 0 names)
    distinct-made ds names h numbers new = distinct-append ds (kids 0 names) h (distinct-merges 0 names new) (each ds numbers)
      where
        each : (es : List Node) → AreNumbered es → AllApart es (kids 0 names)
        each [] h = tt
        each (d ∷ es) h = (number-merges d.part h.0 0 names, each es h.1)

    well-merges : (q : ℕ) (names : List (List ℕ)) → AllWell (merges D gs m values k lens q names)
    well-merges q [] = tt
    well-merges q (x ∷ names) = ((tt, tt), well-merges (suc q) names)

well-joined : (us vs : Vertices) → AllWell us → AllWell vs → AllWell (join us vs)
well-joined no_vertices vs h k = k
well-joined (and_vertex u us) vs h k = (h.0, well-joined us vs h.1 k)

-- the level of a switch's cases and merges
switch-level : (gs : List Guard) (l : Label) (values : List ℤ) (names : List (List ℕ)) (us es : Vertices) → CasesUnder (own_guards 0 gs) (length gs) values 0 (nodes us) (nodes es)
    → HasDistinctParts (nodes us) → AreNumbered (nodes us) → AreDistinctNames names
    → IsAcyclic (nodes (switch_inside gs l values names (count_of us) es)) × HasDistinctParts (nodes (switch_inside gs l values names (count_of us) es))
switch-level gs l values names us es cases distinct numbers new =
    let G = own_guards 0 gs in let m = length gs in let D = l.definition in let cs = nodes us in let ds = nodes es in
    let e : nodes (switch_inside gs l values names (count_of us) es) ≡ ds ++ nodes (merges D G m values (length cs) l.outs 0 names) =
    nodes-joined es (merges D G m values (count_of us) l.outs 0 names) ∙ ap (λ k. ds ++ nodes (merges D G m values k l.outs 0 names)) (count-nodes us) in
    subst (λ ks. IsAcyclic ks × HasDistinctParts ks) (sym e) (
      cases_level-acyclic D G m values cs ds names l.outs (own-own 0 gs) cases,
      distinct-made G m values D (length cs) l.outs ds names (distinct-cases G m values 0 cs ds cases distinct) (numbered-cases G m values 0 cs ds cases numbers) new,
    )

well-by : (gs : List Guard) (n : ℕ) (l : Label) (k : Kind) (us : Vertices) (inner : List Guard → ℕ → Vertices) (cases : List Guard → ℕ → List ℤ → Vertices) → IsKindWell k l.guards us → IsNoRepeat k
    → AllUnder (own_guards 0 gs) (length gs) (nodes us) (nodes (inner (own_guards 0 gs) (length gs))) → AllReady (nodes us) (nodes (inner (own_guards 0 gs) (length gs)))
    → ((values : List ℤ) → AreCases us → CasesUnder (own_guards 0 gs) (length gs) values 0 (nodes us) (nodes (cases (own_guards 0 gs) (length gs) values)))
    → AllWell (inner (own_guards 0 gs) (length gs)) → ((values : List ℤ) → AllWell (cases (own_guards 0 gs) (length gs) values))
    → IsWell (guarded_by gs n l k us inner cases)
well-by gs n l (graph outs) us inner cases h none under ready each deep deeper =
    ((refl, (acyclic-same (nodes us) _ ready h.1.0, distinct-under (own_guards 0 gs) (length gs) (nodes us) _ under h.1.1)), deep)
well-by gs n l (switch values names) us inner cases h none under ready each deep deeper = (
  (refl, switch-level gs l values names us (cases (own_guards 0 gs) (length gs) values) (each values h.0.1.1.1) h.0.1.1.0 h.1.0 h.1.1),
  well-joined (cases (own_guards 0 gs) (length gs) values) _ (deeper values) (well-merges (own_guards 0 gs) (length gs) values l.definition (count_of us) l.outs 0 names),
)
well-by gs n l (repeat m feeds gives) us inner cases h none under ready each deep deeper = absurd none
well-by gs n l (sensor m) us inner cases h none under ready each deep deeper = (tt, tt)
well-by gs n l (actuator m) us inner cases h none under ready each deep deeper = (tt, tt)
well-by gs n l (constant v) us inner cases h none under ready each deep deeper = (tt, tt)
well-by gs n l (delay v) us inner cases h none under ready each deep deeper = (tt, tt)
well-by gs n l (function es) us inner cases h none under ready each deep deeper = (tt, tt)
well-by gs n l explode us inner cases h none under ready each deep deeper = (tt, tt)
well-by gs n l implode us inner cases h none under ready each deep deeper = (tt, tt)
well-by gs n l (merge values) us inner cases h none under ready each deep deeper = (tt, tt)

mutual
  pub well-guarded : (gs : List Guard) (n : ℕ) (u : Vertex) → IsWell u → HasNoRepeat u → IsWell (guarded gs n u)
  well-guarded gs n (vertex l us) h none =
      let G = own_guards 0 gs in let m = length gs in
      well-by gs n l l.kind us (λ inside m. guarded_all inside m us) (λ inside m values. guarded_cases inside m values 0 us) h.0 none.0
      (under-all G m us h.1 none.1) (ready-all G m us (own-own 0 gs) h.1) (λ values fed. under-cases G m values 0 us (own-own 0 gs) fed h.1 none.1)
      (well-all G m us h.1 none.1) (λ values. well-cases G m values 0 us h.1 none.1)

  well-all : (gs : List Guard) (n : ℕ) (us : Vertices) → AllWell us → AllNoRepeat us → AllWell (guarded_all gs n us)
  well-all gs n no_vertices h none = tt
  well-all gs n (and_vertex u us) h none = (well-guarded gs n u h.0 none.0, well-all gs n us h.1 none.1)

  well-cases : (gs : List Guard) (m : ℕ) (values : List ℤ) (i : ℕ) (us : Vertices) → AllWell us → AllNoRepeat us → AllWell (guarded_cases gs m values i us)
  well-cases gs m values i no_vertices h none = tt
  well-cases gs m values i (and_vertex u us) h none = (well-guarded (gs ++ guard_for m values i ∷ []) m u h.0 none.0, well-cases gs m values (suc i) us h.1 none.1)
