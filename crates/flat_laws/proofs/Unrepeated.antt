-- An unrolled tree repeats nothing.
use Rattle.algo_tree.specs.Tree.{Label, Kind, sensor, actuator, constant, delay, function, explode, implode, merge, graph, switch, repeat, Vertex, vertex, Vertices, no_vertices, and_vertex}
use Rattle.flat_laws.specs.Unrolled.{unrolled_at, unroll, unroll_all}
use Rattle.algo_tree.specs.NoRepeat.{HasNoRepeat, AllNoRepeat}
use Rattle.flat_laws.proofs.Every.{every-repeat}

no-at : (l : Label) (k : Kind) (us : Vertices) → AllNoRepeat us → HasNoRepeat (unrolled_at l k us)
no-at l (repeat n feeds gives) us h =
    (tt, every-repeat HasNoRepeat AllNoRepeat tt (λ u us h k. (h, k)) (λ u us h. h) (λ d name ins outs. (tt, tt)) (λ d name ins outs. (tt, tt)) (λ c feeds lb vs i h. h) l n feeds gives us h)
no-at l (sensor m) us h = (tt, h)
no-at l (actuator m) us h = (tt, h)
no-at l (constant v) us h = (tt, h)
no-at l (delay v) us h = (tt, h)
no-at l (function es) us h = (tt, h)
no-at l explode us h = (tt, h)
no-at l implode us h = (tt, h)
no-at l (merge values) us h = (tt, h)
no-at l (graph sources) us h = (tt, h)
no-at l (switch values names) us h = (tt, h)

mutual
  pub no-unroll : (u : Vertex) → HasNoRepeat (unroll u)
  no-unroll (vertex l us) = no-at l l.kind (unroll_all us) (no-unroll_all us)

  no-unroll_all : (us : Vertices) → AllNoRepeat (unroll_all us)
  no-unroll_all no_vertices = tt
  no-unroll_all (and_vertex u us) = (no-unroll u, no-unroll_all us)
