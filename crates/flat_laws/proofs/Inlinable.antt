-- What inlining needs of a well tree of graphs and operations.
use Rattle.std.specs.Prelude.{◌≡◌, ℕ, ◌≤◌, List, [], length, map}
use Rattle.algo_tree.specs.declared.Guard.{Guard}
use Rattle.algo_tree.specs.Level.{Node}
use Rattle.algo_tree.specs.Order.{IsAcyclic}
use Rattle.algo_tree.specs.Parts.{HasDistinctParts}
use Rattle.algo_tree.specs.Tree.{Label, Kind, sensor, actuator, constant, delay, function, explode, implode, merge, graph, switch, repeat, Vertex, vertex, Vertices, no_vertices, and_vertex}
use Rattle.algo_tree.specs.Meaning.{nodes}
use Rattle.algo_tree.specs.Typed.{label_of, outs_of, source_length, IsKindTyped, IsTyped, AllTyped, IsBodyTyped}
use Rattle.algo_tree.specs.Well.{IsEmpty, IsKindWell, IsWell, AllWell}
use Rattle.flat_laws.specs.Plain.{IsKindPlain, IsPlain, AllPlain}

abbrev pub with_kind : Label → Kind → Label
with_kind l k = record { part = l.part; definition = l.definition; ins = l.ins; guards = l.guards; outs = l.outs; names = l.names; kind = k }

-- a graph has no guards and no cycle, and its vertices have distinct parts; a delay has a stage
abbrev pub IsKindInlinable : Kind → List Guard → List Node → Type 0
IsKindInlinable (graph outs) gs cs = (gs ≡ []) × (IsAcyclic cs × HasDistinctParts cs)
IsKindInlinable (switch values names) gs cs = ⊥
IsKindInlinable (repeat n feeds gives) gs cs = ⊥
IsKindInlinable (delay vs) gs cs = 1 ≤ length vs
IsKindInlinable _ gs cs = Unit {0}

abbrev mutual
  pub CanInline : Vertex → Type 0
  CanInline (vertex l us) = IsKindInlinable l.kind l.guards (nodes us) × AllCanInline us

  pub AllCanInline : Vertices → Type 0
  AllCanInline no_vertices = Unit {0}
  AllCanInline (and_vertex u us) = CanInline u × AllCanInline us

-- what stands inside, where nothing does
none_inlinable : (us : Vertices) → IsEmpty us → AllCanInline us
none_inlinable no_vertices h = tt
none_inlinable (and_vertex u us) h = absurd h

module _ (lens : List ℕ) (l : Label) (us : Vertices) (well : AllWell us) (plain : AllPlain us) (inner : AllTyped lens (outs_of us) us → AllCanInline us) where
  kind_inlinable : (k : Kind) → IsKindWell k l.guards us → IsKindPlain k → IsKindTyped k lens l.outs (outs_of us) (λ own outs. AllTyped own outs us) (λ fed. IsBodyTyped fed us)
      → IsKindInlinable k l.guards (nodes us) × AllCanInline us
  kind_inlinable (graph outs) h p t = (h, inner t.0)
  kind_inlinable (switch values names) h p t = absurd p
  kind_inlinable (repeat n feeds gives) h p t = absurd p
  kind_inlinable (sensor n) h p t = (tt, none_inlinable us h)
  kind_inlinable (actuator n) h p t = (tt, none_inlinable us h)
  kind_inlinable (constant v) h p t = (tt, none_inlinable us h)
  kind_inlinable (delay vs) h p t = (t.1.0, none_inlinable us h)
  kind_inlinable (function es) h p t = (tt, none_inlinable us h)
  kind_inlinable explode h p t = (tt, none_inlinable us h)
  kind_inlinable implode h p t = (tt, none_inlinable us h)
  kind_inlinable (merge values) h p t = (tt, none_inlinable us h)

mutual
  pub can_inline : (lens : List ℕ) (u : Vertex) → IsWell u → IsTyped lens u → IsPlain u → CanInline u
  can_inline lens (vertex l us) h t p = kind_inlinable lens l us h.1 p.1 (λ deep. all_can_inline lens (outs_of us) us h.1 deep p.1) l.kind h.0 p.0 t.1

  pub all_can_inline : (own : List ℕ) (outs : List (List ℕ)) (us : Vertices) → AllWell us → AllTyped own outs us → AllPlain us → AllCanInline us
  all_can_inline own outs no_vertices h t p = tt
  all_can_inline own outs (and_vertex u us) h t p =
      (can_inline (map (source_length own outs) (label_of u).ins) u h.0 t.0.1 p.0, all_can_inline own outs us h.1 t.1 p.1)

-- what can be inlined is plain
kind_plain : (k : Kind) (gs : List Guard) (cs : List Node) → IsKindInlinable k gs cs → IsKindPlain k
kind_plain (graph outs) gs cs h = tt
kind_plain (switch values names) gs cs h = h
kind_plain (repeat n feeds gives) gs cs h = h
kind_plain (sensor n) gs cs h = tt
kind_plain (actuator n) gs cs h = tt
kind_plain (constant v) gs cs h = tt
kind_plain (delay vs) gs cs h = tt
kind_plain (function es) gs cs h = tt
kind_plain explode gs cs h = tt
kind_plain implode gs cs h = tt
kind_plain (merge values) gs cs h = tt

mutual
  pub is_plain : (u : Vertex) → CanInline u → IsPlain u
  is_plain (vertex l us) h = (kind_plain l.kind l.guards (nodes us) h.0, are_plain us h.1)

  are_plain : (us : Vertices) → AllCanInline us → AllPlain us
  are_plain no_vertices h = tt
  are_plain (and_vertex u us) h = (is_plain u h.0, are_plain us h.1)
