-- What is said of a vertex when it is unrolled: the same, but for its kind.
use Rattle.std.proofs.Common.{◌≡◌, ◌∷◌, refl, ap, ap₂}
use Rattle.algo_tree.specs.Tree.{Label, Kind, sensor, actuator, constant, delay, function, explode, implode, merge, graph, switch, repeat, Vertex, vertex, Vertices, no_vertices, and_vertex}
use Rattle.algo_tree.specs.Typed.{label_of, outs_of}
use Rattle.algo_tree.specs.Relabelled.{with_kind}
use Rattle.flat_laws.specs.Unrolled.{give_sources, begin, unrolled_at, unroll, unroll_all}

abbrev pub unrolled_kind : Kind → Kind
unrolled_kind (repeat n feeds gives) = graph (give_sources (begin feeds) n 0 gives)
unrolled_kind k = k

pub label-at : (l : Label) (k : Kind) (us : Vertices) → label_of (unrolled_at l k us) ≡ with_kind l (unrolled_kind k)
label-at l (repeat n feeds gives) us = refl
label-at l (sensor m) us = refl
label-at l (actuator m) us = refl
label-at l (constant v) us = refl
label-at l (delay v) us = refl
label-at l (function es) us = refl
label-at l explode us = refl
label-at l implode us = refl
label-at l (merge values) us = refl
label-at l (graph sources) us = refl
label-at l (switch values names) us = refl

pub label-unroll : (u : Vertex) → label_of (unroll u) ≡ with_kind (label_of u) (unrolled_kind (label_of u).kind)
label-unroll (vertex l us) = label-at l l.kind (unroll_all us)

pub outs-unroll : (us : Vertices) → outs_of (unroll_all us) ≡ outs_of us
outs-unroll no_vertices = refl
outs-unroll (and_vertex u us) = ap₂ (λ os oss. os ∷ oss) (ap (λ l. l.outs) (label-unroll u)) (outs-unroll us)
