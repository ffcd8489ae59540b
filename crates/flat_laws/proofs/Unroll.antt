-- A tree without repetitions has the same meaning.
use Rattle.std.proofs.Common.{◌≡◌, ℕ, ◌<◌, List, [], ◌∷◌, ◌++◌, map, refl, sym, ap, ap₂, ◌∙◌, subst}
use Rattle.std.proofs.lemmas.List.{map-append}
use Rattle.algo_tree.specs.declared.Source.{Source}
use Rattle.algo_tree.specs.declared.Guard.{Guard}
use Rattle.algo_tree.specs.declared.Feed.{Feed}
use Rattle.algo_tree.specs.declared.Give.{Give}
use Rattle.algo_tree.specs.Level.{Behaviour}
use Rattle.algo_tree.specs.Tree.{Label, Kind, sensor, actuator, constant, delay, function, explode, implode, merge, graph, switch, repeat, Vertex, vertex, Vertices, no_vertices, and_vertex}
use Rattle.algo_tree.specs.Meaning.{asked_by, behaviour_of, node, nodes, actuator_values, actuator_value}
use Rattle.algo_tree.specs.View.{vertices_of}
use Rattle.algo_tree.specs.Well.{join_names, IsOne, IsKindWell, IsWell, AllWell}
use Rattle.algo_tree.specs.Valid.{IsTree}
use Rattle.algo_tree.specs.SameMeaning.{KeepsMeaning}
use Rattle.algo_tree.proofs.Passes.{keeps_meaning}
use Rattle.algo_tree.proofs.LevelViews.{nodes-vertices_of}
use Rattle.algo_tree.specs.Relabelled.{with_kind}
use Rattle.flat_laws.specs.Unrolled.{explodes, copy, implodes, give_sources, begin, unrolled_inside, unrolled_at, unroll, unroll_all}
use Rattle.flat_laws.specs.Lines.{in_line_order}
use Rattle.flat_laws.proofs.Lines.{AreApart, apart-of}
use Rattle.algo_tree.proofs.Lists.{map_map}
use Rattle.flat_laws.proofs.Unrolled.{level, level_acyclic, unrolled_outputs, unrolled_next, unrolled_initial}
use Rattle.syn_base.specs.Vectors.{Vector}
use Rattle.syn_base.specs.Numbers.{numbers_below}

-- what unrolling asks for: a copy at least, one body, and fork lines of distinct names
abbrev pub IsRepeatable : Kind → Vertices → Type 0
IsRepeatable (repeat n feeds gives) us = ((0 < n) × IsOne us) × AreApart feeds
IsRepeatable _ us = Unit {0}

pub can_unroll : (k : Kind) (gs : List Guard) (us : Vertices) → IsKindWell k gs us → IsRepeatable k us
can_unroll (repeat n feeds gives) gs us h = (h.1.0, apart-of feeds (join_names gives) h.1.1)
can_unroll (sensor m) gs us h = tt
can_unroll (actuator m) gs us h = tt
can_unroll (constant v) gs us h = tt
can_unroll (delay v) gs us h = tt
can_unroll (function es) gs us h = tt
can_unroll explode gs us h = tt
can_unroll implode gs us h = tt
can_unroll (merge values) gs us h = tt
can_unroll (graph sources) gs us h = tt
can_unroll (switch values names) gs us h = tt

-- two vertices that do the same in each field do the same
behaviour-equal : (a b : Behaviour) → a.outputs ≡ b.outputs → a.next ≡ b.next → a.initial ≡ b.initial → a ≡ b
behaviour-equal a b x y z i = record { outputs = x i; next = y i; initial = z i }

-- what is made of a repetition, as the vertices of its level
pub nodes-unrolled : (d : List ℕ) (n : ℕ) (feeds : List Feed) (gives : List Give) (outs : List ℕ) (lb : Label) (vs : Vertices)
    → nodes (vertices_of (unrolled_inside d n feeds gives outs (and_vertex (vertex lb vs) no_vertices))) ≡ level d n feeds gives outs lb vs
nodes-unrolled d n feeds gives outs lb vs =
    let c = begin feeds in
    nodes-vertices_of (unrolled_inside d n feeds gives outs (and_vertex (vertex lb vs) no_vertices))
    ∙ map-append node (explodes d n (in_line_order feeds)) _
    ∙ ap (λ xs. map node (explodes d n (in_line_order feeds)) ++ xs)
    (map-append node (map (copy c feeds lb vs) (numbers_below n)) (implodes d c n outs 0 gives)
    ∙ ap (λ xs. xs ++ map node (implodes d c n outs 0 gives)) (map_map node (copy c feeds lb vs) (numbers_below n)))

same-repeat : (l : Label) (n : ℕ) (feeds : List Feed) (gives : List Give) (us : Vertices) → 0 < n → IsOne us → AreApart feeds
    → behaviour_of (with_kind l (graph (give_sources (begin feeds) n 0 gives))) (nodes (vertices_of (unrolled_inside l.definition n feeds gives l.outs us)))
    ≡ behaviour_of (with_kind l (repeat n feeds gives)) (nodes us)
same-repeat l n feeds gives no_vertices some one apart = absurd one
same-repeat l n feeds gives (and_vertex u (and_vertex v us)) some one apart = absurd one
same-repeat l n feeds gives (and_vertex (vertex lb vs) no_vertices) some one apart =
    ap (behaviour_of (with_kind l (graph (give_sources (begin feeds) n 0 gives)))) (nodes-unrolled l.definition n feeds gives l.outs lb vs)
    ∙ behaviour-equal _ _
    (λ i row st ins. unrolled_outputs l.definition n feeds gives l.outs lb vs row st ins apart (level_acyclic l.definition n feeds gives l.outs lb vs) some i)
    (λ i row st ins q. unrolled_next l.definition n feeds gives l.outs lb vs row st ins apart (level_acyclic l.definition n feeds gives l.outs lb vs) q i)
    (λ i q. unrolled_initial l.definition n feeds gives l.outs lb vs [] (λ _. []) [] q i)

node-at : (l : Label) (k : Kind) (us : Vertices) → IsRepeatable k us → node (unrolled_at l k us) ≡ node (vertex (with_kind l k) us)
node-at l (repeat n feeds gives) us h =
    ap (λ d. record { part = l.part; ins = l.ins; asked = l.ins; guards = l.guards; outs = l.outs; does = d }) (same-repeat l n feeds gives us h.0.0 h.0.1 h.1)
node-at l (sensor m) us h = refl
node-at l (actuator m) us h = refl
node-at l (constant v) us h = refl
node-at l (delay v) us h = refl
node-at l (function es) us h = refl
node-at l explode us h = refl
node-at l implode us h = refl
node-at l (merge values) us h = refl
node-at l (graph sources) us h = refl
node-at l (switch values names) us h = refl

pub one-unrolled : (us : Vertices) → IsOne us → IsOne (unroll_all us)
one-unrolled no_vertices h = h
one-unrolled (and_vertex u no_vertices) h = tt
one-unrolled (and_vertex u (and_vertex v us)) h = absurd h

pub repeatable-unrolled : (k : Kind) (us : Vertices) → IsRepeatable k us → IsRepeatable k (unroll_all us)
repeatable-unrolled (repeat n feeds gives) us h = ((h.0.0, one-unrolled us h.0.1), h.1)
repeatable-unrolled (sensor m) us h = tt
repeatable-unrolled (actuator m) us h = tt
repeatable-unrolled (constant v) us h = tt
repeatable-unrolled (delay v) us h = tt
repeatable-unrolled (function es) us h = tt
repeatable-unrolled explode us h = tt
repeatable-unrolled implode us h = tt
repeatable-unrolled (merge values) us h = tt
repeatable-unrolled (graph sources) us h = tt
repeatable-unrolled (switch values names) us h = tt

mutual
  pub node-unroll : (u : Vertex) → IsWell u → node (unroll u) ≡ node u
  node-unroll (vertex l us) h =
      node-at l l.kind (unroll_all us) (repeatable-unrolled l.kind us (can_unroll l.kind l.guards us h.0))
      ∙ ap (λ cs. record { part = l.part; ins = l.ins; asked = asked_by l.kind l.ins; guards = l.guards; outs = l.outs; does = behaviour_of l cs }) (nodes-unroll us h.1)

  pub nodes-unroll : (us : Vertices) → AllWell us → nodes (unroll_all us) ≡ nodes us
  nodes-unroll no_vertices h = refl
  nodes-unroll (and_vertex u us) h = ap₂ (λ c cs. c ∷ cs) (node-unroll u h.0) (nodes-unroll us h.1)

actuator-at : (look : Source → Vector) (l : Label) (k : Kind) (us vs : Vertices) → actuator_values look (and_vertex (unrolled_at l k us) vs) ≡ actuator_value look l k ++ actuator_values look vs
actuator-at look l (repeat n feeds gives) us vs = refl
actuator-at look l (sensor m) us vs = refl
actuator-at look l (actuator m) us vs = refl
actuator-at look l (constant v) us vs = refl
actuator-at look l (delay v) us vs = refl
actuator-at look l (function es) us vs = refl
actuator-at look l explode us vs = refl
actuator-at look l implode us vs = refl
actuator-at look l (merge values) us vs = refl
actuator-at look l (graph sources) us vs = refl
actuator-at look l (switch values names) us vs = refl

actuators-unroll : (look : Source → Vector) (us : Vertices) → actuator_values look (unroll_all us) ≡ actuator_values look us
actuators-unroll look no_vertices = refl
actuators-unroll look (and_vertex (vertex l vs) us) = actuator-at look l l.kind (unroll_all vs) (unroll_all us) ∙ ap (λ xs. actuator_value look l l.kind ++ xs) (actuators-unroll look us)

-- the main graph
unroll-keeps : (l : Label) (us : Vertices) → l.kind ≡ graph [] → AllWell us → KeepsMeaning (vertex l us) (unroll (vertex l us))
unroll-keeps l us e h =
    subst (λ k. KeepsMeaning (vertex l us) (unrolled_at l k (unroll_all us))) (sym e)
    (subst (λ k. KeepsMeaning (vertex l us) (vertex (with_kind l k) (unroll_all us))) e (keeps_meaning l us (unroll_all us) (nodes-unroll us h) (λ look. actuators-unroll look us)))

pub unroll_main-keeps : (main : Vertex) → IsTree main → KeepsMeaning main (unroll main)
unroll_main-keeps (vertex l us) h = unroll-keeps l us h.portless.kind h.well.1
