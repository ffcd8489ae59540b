-- An unrolled tree stands for as many flat operations as before.
use Rattle.std.proofs.Common.{◌≡◌, ◌+◌, refl, ap, ap₂, ◌∙◌}
use Rattle.algo_tree.specs.Tree.{Label, Kind, sensor, actuator, constant, delay, function, explode, implode, merge, graph, switch, repeat, Vertex, vertex, Vertices, no_vertices, and_vertex}
use Rattle.algo_tree.specs.Well.{IsWell, AllWell}
use Rattle.algo_tree.specs.Counted.{operations_by, operations, operations_in}
use Rattle.flat_laws.specs.Unrolled.{unrolled_at, unroll, unroll_all}
use Rattle.flat_laws.proofs.Unroll.{IsRepeatable, can_unroll, repeatable-unrolled}
use Rattle.flat_laws.proofs.Summed.{summed-repeat}

counted-at : (l : Label) (k : Kind) (us : Vertices) → IsRepeatable k us → operations (unrolled_at l k us) ≡ operations_by k (operations_in us)
counted-at l (repeat n feeds gives) us h =
    summed-repeat operations operations_in refl (λ u us. refl) (λ d name ins outs. refl) (λ d name ins outs. refl)
    (λ c feeds lb vs i. refl) l n feeds gives us h.0.1
counted-at l (sensor m) us h = refl
counted-at l (actuator m) us h = refl
counted-at l (constant v) us h = refl
counted-at l (delay v) us h = refl
counted-at l (function es) us h = refl
counted-at l explode us h = refl
counted-at l implode us h = refl
counted-at l (merge values) us h = refl
counted-at l (graph sources) us h = refl
counted-at l (switch values names) us h = refl

mutual
  pub counted-unroll : (u : Vertex) → IsWell u → operations (unroll u) ≡ operations u
  counted-unroll (vertex l us) h =
      counted-at l l.kind (unroll_all us) (repeatable-unrolled l.kind us (can_unroll l.kind l.guards us h.0)) ∙ ap (operations_by l.kind) (counted-unroll_all us h.1)

  counted-unroll_all : (us : Vertices) → AllWell us → operations_in (unroll_all us) ≡ operations_in us
  counted-unroll_all no_vertices h = refl
  counted-unroll_all (and_vertex u us) h = ap₂ (λ m n. m + n) (counted-unroll u h.0) (counted-unroll_all us h.1)
