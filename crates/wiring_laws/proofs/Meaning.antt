-- A pruned tree has the meaning of the tree.
use mathlib.Core.Path.{fun_ext}
use Rattle.std.proofs.Common.{◌≡◌, ℕ, zero, suc, ◌==◌, List, [], ◌∷◌, ◌++◌, map, Bool, true, false, cond, slice_index_or, Option, Some, None, refl, sym, ap, ap₂, ◌∙◌}
use Rattle.std.proofs.lemmas.Bool.{eqb-true}
use Rattle.syn_base.specs.Vectors.{Vector, Values}
use Rattle.algo_tree.specs.declared.Source.{Source}
use Rattle.algo_tree.specs.Level.{State, Path, Behaviour, level_value}
use Rattle.algo_tree.specs.Tree.{Label, Kind, sensor, actuator, constant, delay, function, explode, implode, merge, graph, switch, repeat, Vertex, vertex, Vertices, no_vertices, and_vertex}
use Rattle.algo_tree.specs.Counted.{operations}
use Rattle.algo_tree.specs.Meaning.{behaviour, node, node_of, nodes, past, actuator_value, actuator_values}
use Rattle.algo_tree.specs.Valid.{IsTree}
use Rattle.algo_tree.specs.SameMeaning.{KeepsMeaning}
use Rattle.algo_tree.proofs.Passes.{keeps_meaning}
use Rattle.wiring_laws.specs.Wiring.{pick, wiring}
use Rattle.wiring_laws.specs.Pruned.{own_of, passing, prune, prune_all, pruned}
use Rattle.wiring_laws.proofs.Idle.{IsKindIdle, IsIdle, AllIdle, asked}
use Rattle.wiring_laws.proofs.Values.{outputs-idle, keeps-idle, starts-idle}
use Rattle.wiring_laws.proofs.Prunable.{AllSome, CanPrune, AllCanPrune, can_prune}

-- a graph that passes inputs on
passed : (row : Values) (st : State) (ins : Values) (os : List (Option ℕ)) → AllSome os → map (level_value [] row st ins) (map own_of os) ≡ map (pick [] ins) os
passed row st ins [] h = refl
passed row st ins (None ∷ os) h = absurd h
passed row st ins (Some k ∷ os) h = ap (λ vs. pick [] ins (Some k) ∷ vs) (passed row st ins os h)

still : (row : Values) (st : State) (ins : Values) (l : Label) (os : List (Option ℕ)) (q : Path) → (behaviour (passing l os)).next row st ins q ≡ st q
still row st ins l os [] = refl
still row st ins l os (p ∷ q) = refl

starting : (l : Label) (os : List (Option ℕ)) (q : Path) → (behaviour (passing l os)).initial q ≡ []
starting l os [] = refl
starting l os (p ∷ q) = refl

same-does : (b c : Behaviour) → ((row : Values) (st : State) (ins : Values) → b.outputs row st ins ≡ c.outputs row st ins)
    → ((row : Values) (st : State) (ins : Values) (q : Path) → b.next row st ins q ≡ c.next row st ins q)
    → ((q : Path) → b.initial q ≡ c.initial q) → b ≡ c
same-does b c o n i =
    ap (λ f. record { outputs = f; next = b.next; initial = b.initial }) (fun_ext (λ row. fun_ext (λ st. fun_ext (λ ins. o row st ins))))
    ∙ ap (λ f. record { outputs = c.outputs; next = f; initial = b.initial }) (fun_ext (λ row. fun_ext (λ st. fun_ext (λ ins. fun_ext (λ q. n row st ins q)))))
    ∙ ap (λ f. record { outputs = c.outputs; next = c.next; initial = f }) (fun_ext i)

pub passing-does : (u : Vertex) → IsIdle u → AllSome (wiring u) → (l : Label) → behaviour (passing l (wiring u)) ≡ behaviour u
passing-does u h some l =
    same-does (behaviour (passing l (wiring u))) (behaviour u) (λ row st ins. passed row st ins (wiring u) some ∙ sym (outputs-idle u h row st ins))
    (λ row st ins q. still row st ins l (wiring u) q ∙ sym (keeps-idle u h row st ins q)) (λ q. starting l (wiring u) q ∙ sym (starts-idle u h q))

node-either : (l : Label) (us : Vertices) → (operations (vertex l us) ≡ 0 → IsIdle (vertex l us) × AllSome (wiring (vertex l us)))
    → nodes (prune_all us) ≡ nodes us → (b : Bool) → (operations (vertex l us) == 0) ≡ b
    → node (cond b (passing l (wiring (vertex l us))) (vertex l (prune_all us))) ≡ node (vertex l us)
node-either l us h inner true e =
    let known = h (eqb-true (operations (vertex l us)) 0 e) in
    ap₂ (λ ss does. record { part = l.part; ins = l.ins; asked = ss; guards = l.guards; outs = l.outs; does = does }) (sym (asked (vertex l us) known.0)) (passing-does (vertex l us) known.0 known.1 l)
node-either l us h inner false e = ap (node_of l) inner

mutual
  pub node-prune : (u : Vertex) → CanPrune u → node (prune u) ≡ node u
  node-prune (vertex l us) h = node-either l us h.0 (nodes-prune us h.1) (operations (vertex l us) == 0) refl

  pub nodes-prune : (us : Vertices) → AllCanPrune us → nodes (prune_all us) ≡ nodes us
  nodes-prune no_vertices h = refl
  nodes-prune (and_vertex u us) h = ap₂ (λ c cs. c ∷ cs) (node-prune u h.0) (nodes-prune us h.1)

-- a unit without operations is no actuator
no-actuator : (look : Source → Vector) (l : Label) (us : Vertices) (k : Kind) → IsKindIdle k us → actuator_value look l k ≡ []
no-actuator look l us (graph outs) h = refl
no-actuator look l us (switch values names) h = refl
no-actuator look l us (repeat n feeds gives) h = refl
no-actuator look l us (sensor n) h = refl
no-actuator look l us (actuator n) h = absurd h
no-actuator look l us (constant v) h = refl
no-actuator look l us (delay vs) h = refl
no-actuator look l us (function es) h = refl
no-actuator look l us explode h = refl
no-actuator look l us implode h = refl
no-actuator look l us (merge values) h = refl

abbrev taken_by : (Source → Vector) → Vertex → Values
taken_by look (vertex l us) = actuator_value look l l.kind

taken-either : (look : Source → Vector) (l : Label) (us : Vertices)
    → (operations (vertex l us) ≡ 0 → IsIdle (vertex l us) × AllSome (wiring (vertex l us))) → (b : Bool) → (operations (vertex l us) == 0) ≡ b
    → taken_by look (cond b (passing l (wiring (vertex l us))) (vertex l (prune_all us))) ≡ actuator_value look l l.kind
taken-either look l us h true e = sym (no-actuator look l us l.kind ((h (eqb-true (operations (vertex l us)) 0 e)).0.0.1))
taken-either look l us h false e = refl

taken-cons : (look : Source → Vector) (u : Vertex) (us : Vertices) → actuator_values look (and_vertex u us) ≡ taken_by look u ++ actuator_values look us
taken-cons look (vertex l vs) us = refl

taken-one : (look : Source → Vector) (u : Vertex) → CanPrune u → taken_by look (prune u) ≡ taken_by look u
taken-one look (vertex l us) h = taken-either look l us h.0 (operations (vertex l us) == 0) refl

pub taken-prune : (look : Source → Vector) (us : Vertices) → AllCanPrune us → actuator_values look (prune_all us) ≡ actuator_values look us
taken-prune look no_vertices h = refl
taken-prune look (and_vertex u us) h =
    taken-cons look (prune u) (prune_all us) ∙ ap₂ (λ xs ys. xs ++ ys) (taken-one look u h.0) (taken-prune look us h.1) ∙ sym (taken-cons look u us)

none-taken : (look : Source → Vector) (us : Vertices) → AllIdle us → actuator_values look us ≡ []
none-taken look no_vertices h = refl
none-taken look (and_vertex u us) h = taken-cons look u us ∙ ap₂ (λ xs ys. xs ++ ys) (one u h.0) (none-taken look us h.1)
  where
    one : (u : Vertex) → IsIdle u → taken_by look u ≡ []
    one (vertex l us) h = no-actuator look l us l.kind h.0.1

-- two mains that do the same keep the same
past-same : (before after : Vertex) → behaviour after ≡ behaviour before → (rows : List Values) (k : ℕ) → past after rows k ≡ past before rows k
past-same before after e rows zero = ap (λ d. d.initial) e
past-same before after e rows (suc k) =
    ap (λ d. d.next (slice_index_or rows k []) (past after rows k) []) e ∙ ap (λ s. (behaviour before).next (slice_index_or rows k []) s []) (past-same before after e rows k)

kept-either : (l : Label) (us : Vertices) → CanPrune (vertex l us) → (b : Bool) → (operations (vertex l us) == 0) ≡ b
    → KeepsMeaning (vertex l us) (cond b (passing l (wiring (vertex l us))) (vertex l (prune_all us)))
kept-either l us h true e =
    let known = h.0 (eqb-true (operations (vertex l us)) 0 e) in
    record {
      taken = λ rows k. sym (none-taken (level_value (nodes us) (slice_index_or rows k []) (past (vertex l us) rows k) []) us known.0.1);
      kept = λ rows k q. ap (λ s. s q) (past-same (vertex l us) (passing l (wiring (vertex l us))) (passing-does (vertex l us) known.0 known.1 l) rows k);
    }
kept-either l us h false e = keeps_meaning l us (prune_all us) (nodes-prune us h.1) (λ look. taken-prune look us h.1)

pub prune-keeps : (main : Vertex) → IsTree main → KeepsMeaning main (prune main)
prune-keeps (vertex l us) h = kept-either l us (can_prune [] (vertex l us) h.well h.typed) (operations (vertex l us) == 0) refl

pub pruned-keeps : (main : Vertex) → IsTree main → KeepsMeaning main (pruned main)
pruned-keeps (vertex l us) h =
    let can = can_prune [] (vertex l us) h.well h.typed in
    keeps_meaning l us (prune_all us) (nodes-prune us can.1) (λ look. taken-prune look us can.1)
