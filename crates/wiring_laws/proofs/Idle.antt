-- What a unit without operations is made of.
use Rattle.std.proofs.Common.{◌≡◌, ℕ, zero, suc, ◌*◌, ◌<◌, ◌≤◌, List, [], ◌∷◌, length, map, refl, sym, arith}
use Rattle.algo_tree.specs.declared.Source.{Source}
use Rattle.algo_tree.specs.declared.Feed.{Feed}
use Rattle.algo_tree.specs.declared.Feed.TheVariants.{Fork, Diffuse, Iterate}
use Rattle.algo_tree.specs.declared.Give.{Give}
use Rattle.algo_tree.specs.declared.Give.TheVariants.{Last, Join}
use Rattle.algo_tree.specs.Order.{IsAcyclic}
use Rattle.algo_tree.specs.Tree.{Label, Kind, sensor, actuator, constant, delay, function, explode, implode, merge, graph, switch, repeat, Vertex, vertex, Vertices, no_vertices, and_vertex}
use Rattle.algo_tree.specs.Meaning.{asked_by, node, nodes}
use Rattle.algo_tree.specs.Counted.{operations, operations_in, operations_by}
use Rattle.algo_tree.specs.Typed.{label_of, outs_of, source_length, fed_length, IsKindTyped, IsTyped, AllTyped, IsBodyTyped}
use Rattle.algo_tree.specs.Well.{fork_names, join_names, IsOne, IsKindWell, IsWell, AllWell}
use Rattle.wiring_laws.specs.Wiring.{wire, wires}
use Rattle.wiring_laws.proofs.Rounds.{Matched}

-- no line forks, and none joins
abbrev pub NoFork : List Feed → Type 0
NoFork [] = Unit {0}
NoFork (Fork name k len ∷ fs) = ⊥
NoFork (Diffuse k ∷ fs) = NoFork fs
NoFork (Iterate k y ∷ fs) = NoFork fs

abbrev pub NoJoin : List Give → Type 0
NoJoin [] = Unit {0}
NoJoin (Last y ∷ gs) = NoJoin gs
NoJoin (Join name y ∷ gs) = ⊥

abbrev pub IsKindIdle : Kind → Vertices → Type 0
IsKindIdle (graph outs) us = IsAcyclic (nodes us)
IsKindIdle (switch values names) us = names ≡ []
IsKindIdle (repeat n feeds gives) us = (NoFork feeds × NoJoin gives) × ((zero < n) × IsOne us)
IsKindIdle _ us = ⊥

abbrev mutual
  -- it is a graph, a switch without outputs or a repetition without forks and joins, without guards, and so is all inside
  pub IsIdle : Vertex → Type 0
  IsIdle (vertex l us) = ((l.guards ≡ []) × IsKindIdle l.kind us) × AllIdle us

  pub AllIdle : Vertices → Type 0
  AllIdle no_vertices = Unit {0}
  AllIdle (and_vertex u us) = IsIdle u × AllIdle us

no-fork : (fs : List Feed) → length (fork_names fs) ≡ 0 → NoFork fs
no-fork [] h = tt
no-fork (Fork name k len ∷ fs) h = absurd (omega (arith, h))
no-fork (Diffuse k ∷ fs) h = no-fork fs h
no-fork (Iterate k y ∷ fs) h = no-fork fs h

no-join : (gs : List Give) → length (join_names gs) ≡ 0 → NoJoin gs
no-join [] h = tt
no-join (Last y ∷ gs) h = no-join gs h
no-join (Join name y ∷ gs) h = absurd (omega (arith, h))

no-name : (xs : List (List ℕ)) → length xs ≡ 0 → xs ≡ []
no-name [] h = refl
no-name (x ∷ xs) h = absurd (omega (arith, h))

none-copied : (n m : ℕ) → zero < n → n * m ≡ 0 → m ≡ 0
none-copied zero m lt h = absurd (omega arith)
none-copied (suc n) zero lt h = refl
none-copied (suc n) (suc m) lt h = absurd (let pos : 1 ≤ suc n * suc m = at-least n m in omega (arith, pos, h))
  where
    at-least : (n m : ℕ) → 1 ≤ suc n * suc m
    at-least zero m = omega arith
    at-least (suc n) m = let k = at-least n m in omega (arith, k)

module _ (lens : List ℕ) (l : Label) (us : Vertices)
    (level : (own : List ℕ) → AllTyped own (outs_of us) us → operations_in us ≡ 0 → AllIdle us)
    (cases : (own : List ℕ) → AllTyped own [] us → operations_in us ≡ 0 → AllIdle us)
    (body : (fed : List ℕ) → IsBodyTyped fed us → IsOne us → operations_in us ≡ 0 → AllIdle us) where
  kind-idle : (k : Kind) → IsKindWell k l.guards us → IsKindTyped k lens l.outs (outs_of us) (λ own outs. AllTyped own outs us) (λ fed. IsBodyTyped fed us) → operations_by k (operations_in us) ≡ 0
      → ((l.guards ≡ []) × IsKindIdle k us) × AllIdle us
  kind-idle (graph outs) w t h = ((w.0, w.1.0), level lens t.0 h)
  kind-idle (switch values names) w t h = ((w.0.0, no-name names (omega (arith, h))), cases lens t.0.1 (omega (arith, h)))
  kind-idle (repeat n feeds gives) w t h =
      let inner : operations_in us ≡ 0 = none-copied n (operations_in us) w.1.0.0 (omega (arith, h)) in
      ((w.0, ((no-fork feeds (omega (arith, h)), no-join gives (omega (arith, h))), w.1.0)), body (map (fed_length lens) feeds) t.0.1 w.1.0.1 inner)
  kind-idle (sensor n) w t h = absurd (omega (arith, h))
  kind-idle (actuator n) w t h = absurd (omega (arith, h))
  kind-idle (constant v) w t h = absurd (omega (arith, h))
  kind-idle (delay vs) w t h = let some = t.1.0 in absurd (omega (arith, h, some))
  kind-idle (function es) w t h = absurd (omega (arith, h))
  kind-idle explode w t h = absurd (omega (arith, h))
  kind-idle implode w t h = absurd (omega (arith, h))
  kind-idle (merge values) w t h = absurd (omega (arith, h))

mutual
  pub idle : (lens : List ℕ) (u : Vertex) → IsWell u → IsTyped lens u → operations u ≡ 0 → IsIdle u
  idle lens (vertex l us) w t h =
      kind-idle lens l us (λ own deep none. all-idle own (outs_of us) us w.1 deep none) (λ own deep none. all-idle own [] us w.1 deep none)
      (λ fed deep one none. body-idle fed us w.1 deep one none) l.kind w.0 t.1 h

  pub all-idle : (own : List ℕ) (outs : List (List ℕ)) (us : Vertices) → AllWell us → AllTyped own outs us → operations_in us ≡ 0 → AllIdle us
  all-idle own outs no_vertices w t h = tt
  all-idle own outs (and_vertex u us) w t h =
      (idle (map (source_length own outs) (label_of u).ins) u w.0 t.0.1 (omega (arith, h)), all-idle own outs us w.1 t.1 (omega (arith, h)))

  pub body-idle : (fed : List ℕ) (us : Vertices) → AllWell us → IsBodyTyped fed us → IsOne us → operations_in us ≡ 0 → AllIdle us
  body-idle fed no_vertices w t one h = tt
  body-idle fed (and_vertex u no_vertices) w t one h = (idle fed u w.0 t (omega (arith, h)), tt)
  body-idle fed (and_vertex u (and_vertex v us)) w t one h = absurd one

asked-idle : (k : Kind) (us : Vertices) (ss : List Source) → IsKindIdle k us → asked_by k ss ≡ ss
asked-idle (graph outs) us ss h = refl
asked-idle (switch values names) us ss h = refl
asked-idle (repeat n feeds gives) us ss h = refl
asked-idle (sensor n) us ss h = refl
asked-idle (actuator n) us ss h = refl
asked-idle (constant v) us ss h = refl
asked-idle (delay vs) us ss h = absurd h
asked-idle (function es) us ss h = refl
asked-idle explode us ss h = refl
asked-idle implode us ss h = refl
asked-idle (merge values) us ss h = refl

pub asked : (u : Vertex) → IsIdle u → (node u).asked ≡ (wire u).ins
asked (vertex l us) h = asked-idle l.kind us l.ins h.0.1

pub unguarded : (u : Vertex) → IsIdle u → (node u).guards ≡ []
unguarded (vertex l us) h = h.0.0

pub matched : (us : Vertices) → AllIdle us → Matched (wires us) (nodes us)
matched no_vertices h = tt
matched (and_vertex u us) h = (sym (asked u h.0), matched us h.1)
