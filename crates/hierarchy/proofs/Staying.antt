-- What is not repeated stays as it is where repetitions are unrolled, and what is no case and has no guard where cases are put under guards.
use Rattle.std.proofs.Common.{◌≡◌, ℕ, suc, ◌+◌, ◌<◌, List, [], ◌∷◌, length, get_or, map, drop, refl, sym, ap, ap₂, ◌∙◌, subst, arith, zero-add, drop-cons}
use Rattle.algo_tree.specs.declared.Guard.{Guard}
use Rattle.algo_tree.specs.declared.Source.{Source}
use Rattle.algo_tree.specs.declared.Source.TheVariants.{Own, Of}
use Rattle.algo_tree.specs.Tree as tree
use Rattle.algo_tree.specs.Tree.{Label, Vertices, vertex, and_vertex, sensor, actuator, constant, delay, function, explode, implode, merge, graph, switch, repeat}
use Rattle.algo_tree.specs.View.{kind_view, label_view, view, vertices_view}
use Rattle.algo_tree.specs.declared.vertex.Kind.{Kind}
use Rattle.algo_tree.specs.declared.vertex.Kind.TheVariants.{Sensor, Actuator, Constant, Delay, Function, Explode, Implode, Merge, Graph, Switch, Repeat}
use Rattle.algo_tree.specs.declared.vertex.Vertex.{Vertex, out-Vertex}
use Rattle.algo_tree.specs.declared.vertex.Vertex.TheOpen.{Vertex-F}
use Rattle.algo_tree.proofs.Views.{view_out}
use Rattle.algo_tree.specs.NoRepeat.{IsNoRepeat}
use Rattle.algo_tree.specs.Relabelled.{with_kind}
use Rattle.flat_laws.specs.Unrolled.{unroll, unroll_all, unrolled_at}
use Rattle.flat_laws.specs.Guarded.{guard, guarded, guarded_all, guarded_by, guarded_cases, operation_under, shift, shift_guard}
use Rattle.hierarchy.specs.Unchanged.{IsGraphOrOperation, IsUnguarded}

abbrev pub StayUnrolled : List Vertex → Type 0
StayUnrolled us = unroll_all (vertices_view us) ≡ vertices_view us

abbrev pub StayGuarded : List Vertex → Type 0
StayGuarded us = guarded_all [] 0 (vertices_view us) ≡ vertices_view us

from_here : (us : List Vertex) (i : ℕ) (u : Vertex) → i < length us → u ≡ get_or us i u → u ∷ drop (i + 1) us ≡ drop i us
from_here us i u below is =
    let e : suc i ≡ i + 1 = omega arith in
    sym (drop-cons us i u below ∙ ap (λ (x : Vertex). x ∷ drop (suc i) us) (sym is) ∙ ap (λ (k : ℕ). u ∷ drop k us) e)

pub unrolled_before : (us : List Vertex) (i : ℕ) (u : Vertex) → i < length us → u ≡ get_or us i u → unroll (view u) ≡ view u → StayUnrolled (drop (i + 1) us) → StayUnrolled (drop i us)
unrolled_before us i u below is one more = subst StayUnrolled (from_here us i u below is) (ap₂ and_vertex one more)

pub guarded_before : (us : List Vertex) (i : ℕ) (u : Vertex) → i < length us → u ≡ get_or us i u → guarded [] 0 (view u) ≡ view u → StayGuarded (drop (i + 1) us) → StayGuarded (drop i us)
guarded_before us i u below is one more = subst StayGuarded (from_here us i u below is) (ap₂ and_vertex one more)

at_kind : (l : Label) (k : tree.Kind) (us : Vertices) → IsNoRepeat k → unrolled_at l k us ≡ vertex (with_kind l k) us
at_kind l (repeat n feeds gives) us no_repeat = absurd no_repeat
at_kind l (sensor n) us no_repeat = refl
at_kind l (actuator n) us no_repeat = refl
at_kind l (constant v) us no_repeat = refl
at_kind l (delay vs) us no_repeat = refl
at_kind l (function es) us no_repeat = refl
at_kind l explode us no_repeat = refl
at_kind l implode us no_repeat = refl
at_kind l (merge vs) us no_repeat = refl
at_kind l (graph outs) us no_repeat = refl
at_kind l (switch vs names) us no_repeat = refl

pub vertex_unrolled : (u : Vertex) → IsNoRepeat (kind_view (out-Vertex u).kind) → StayUnrolled (out-Vertex u).inner.items → unroll (view u) ≡ view u
vertex_unrolled u no_repeat inside =
    let l = label_view (out-Vertex u) in
    ap unroll (view_out u) ∙ at_kind l l.kind (unroll_all (vertices_view (out-Vertex u).inner.items)) no_repeat ∙ ap (vertex l) inside ∙ sym (view_out u)

not_shifted : (ss : List Source) → map (shift 0) ss ≡ ss
not_shifted [] = refl
not_shifted (Own k ∷ ss) = ap₂ (λ (n : ℕ) (rest : List Source). Own n ∷ rest) (zero-add k) (not_shifted ss)
not_shifted (Of r p ∷ ss) = ap (λ (rest : List Source). Of r p ∷ rest) (not_shifted ss)

module _ (v : Vertex-F Vertex) (un : IsUnguarded v) where
  abbrev inside_of : Vertices
  inside_of = vertices_view v.inner.items

  abbrev label : List Source → List Guard → tree.Kind → Label
  label ins gs k = record { part = v.part; definition = v.definition; ins = ins; guards = gs; outs = v.outs; names = v.names; kind = k }

  -- by its kind
  abbrev under : Kind → tree.Vertex
  under k = guarded_by [] 0 (label_view v) (kind_view k) inside_of (λ gs m. guarded_all gs m inside_of) (λ gs m values. guarded_cases gs m values 0 inside_of)

  -- nothing is before its guards, of which there are none
  same_label : (k : Kind) → v.kind ≡ k → (gs : List Guard) → gs ≡ v.guards → (ss : List Source) → ss ≡ v.ins → label ss gs (kind_view k) ≡ label_view v
  same_label k is gs no_guard ss same = ap₂ (λ (xs : List Source) (ys : List Guard). label xs ys (kind_view k)) same no_guard ∙ ap (λ (j : Kind). label v.ins v.guards (kind_view j)) (sym is)

  operation : (k : Kind) → v.kind ≡ k → v.inner.items ≡ [] → operation_under [] 0 (label_view v) (kind_view k) ≡ vertex (label_view v) inside_of
  operation k is nothing =
      ap₂ vertex (same_label k is (map (shift_guard 0) v.guards) (ap (map (shift_guard 0)) un.guards ∙ sym un.guards) (map (shift 0) v.ins) (not_shifted v.ins))
      (sym (ap vertices_view nothing))

  graph_stays : (outs : List Source) → v.kind ≡ Graph outs → StayGuarded v.inner.items → under (Graph outs) ≡ vertex (label_view v) inside_of
  graph_stays outs is inside =
      ap₂ vertex (ap (λ (ss : List Source). label (map (shift 0) v.ins) [] (graph ss)) (not_shifted outs)
      ∙ same_label (Graph outs) is [] (sym un.guards) (map (shift 0) v.ins) (not_shifted v.ins)) inside

  by_kind : (k : Kind) → v.kind ≡ k → IsGraphOrOperation k v.inner.items → StayGuarded v.inner.items → under k ≡ vertex (label_view v) inside_of
  by_kind (Graph outs) is at inside = graph_stays outs is inside
  by_kind (Switch values names) is at inside = absurd at
  by_kind (Sensor n) is at inside = operation (Sensor n) is at
  by_kind (Actuator n) is at inside = operation (Actuator n) is at
  by_kind (Constant z) is at inside = operation (Constant z) is at
  by_kind (Delay zs) is at inside = operation (Delay zs) is at
  by_kind (Function b) is at inside = operation (Function b) is at
  by_kind Explode is at inside = operation Explode is at
  by_kind Implode is at inside = operation Implode is at
  by_kind (Merge zs) is at inside = operation (Merge zs) is at
  by_kind (Repeat n feeds gives) is at inside = operation (Repeat n feeds gives) is at

pub vertex_guarded : (u : Vertex) → IsUnguarded (out-Vertex u) → StayGuarded (out-Vertex u).inner.items → guard (view u) ≡ view u
vertex_guarded u un inside = ap guard (view_out u) ∙ by_kind (out-Vertex u) un (out-Vertex u).kind refl un.kind inside ∙ sym (view_out u)
