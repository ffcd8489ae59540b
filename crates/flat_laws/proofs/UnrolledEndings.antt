-- In an unrolled tree sensors and actuators stand where they stood.
use Rattle.std.proofs.Common.{◌≡◌, ℕ, List, ◌++◌, length, refl, sym, ap, ◌∙◌, subst}
use Rattle.algo_tree.specs.declared.Feed.{Feed}
use Rattle.algo_tree.specs.declared.Give.{Give}
use Rattle.algo_tree.specs.Tree.{Label, Kind, sensor, actuator, constant, delay, function, explode, implode, merge, graph, switch, repeat, Vertex, vertex, Vertices, no_vertices, and_vertex}
use Rattle.algo_tree.specs.View.{vertices_of}
use Rattle.algo_tree.specs.Ends.{IsNoEnd, HasNoEnds, AllNoEnds, NoneInside, sensor_number, actuator_number, sensor_numbers, actuator_numbers, AreEndsNumbered}
use Rattle.flat_laws.specs.Unrolled.{unrolled_inside, unrolled_at, unroll, unroll_all}
use Rattle.flat_laws.proofs.Every.{every-repeat}
use Rattle.syn_base.specs.Numbers.{numbers_below}

none-repeat : (l : Label) (n : ℕ) (feeds : List Feed) (gives : List Give) (us : Vertices) → AllNoEnds us → AllNoEnds (vertices_of (unrolled_inside l.definition n feeds gives l.outs us))
none-repeat = every-repeat HasNoEnds AllNoEnds tt (λ u us h k. (h, k)) (λ u us h. h) (λ d name ins outs. (tt, tt)) (λ d name ins outs. (tt, tt)) (λ c feeds lb vs i h. h)

none-at : (l : Label) (k : Kind) (us : Vertices) → IsNoEnd k → AllNoEnds us → HasNoEnds (unrolled_at l k us)
none-at l (repeat n feeds gives) us h all = (tt, none-repeat l n feeds gives us all)
none-at l (sensor m) us h all = (h, all)
none-at l (actuator m) us h all = (h, all)
none-at l (constant v) us h all = (h, all)
none-at l (delay v) us h all = (h, all)
none-at l (function es) us h all = (h, all)
none-at l explode us h all = (h, all)
none-at l implode us h all = (h, all)
none-at l (merge values) us h all = (h, all)
none-at l (graph sources) us h all = (h, all)
none-at l (switch values names) us h all = (h, all)

mutual
  none-unroll : (u : Vertex) → HasNoEnds u → HasNoEnds (unroll u)
  none-unroll (vertex l us) h = none-at l l.kind (unroll_all us) h.0 (none-unroll_all us h.1)

  none-unroll_all : (us : Vertices) → AllNoEnds us → AllNoEnds (unroll_all us)
  none-unroll_all no_vertices h = tt
  none-unroll_all (and_vertex u us) h = (none-unroll u h.0, none-unroll_all us h.1)

-- a vertex of the main graph, which may itself be an end
inside-at : (l : Label) (k : Kind) (us vs : Vertices) → AllNoEnds us → NoneInside vs → NoneInside (and_vertex (unrolled_at l k us) vs)
inside-at l (repeat n feeds gives) us vs h rest = (none-repeat l n feeds gives us h, rest)
inside-at l (sensor m) us vs h rest = (h, rest)
inside-at l (actuator m) us vs h rest = (h, rest)
inside-at l (constant v) us vs h rest = (h, rest)
inside-at l (delay v) us vs h rest = (h, rest)
inside-at l (function es) us vs h rest = (h, rest)
inside-at l explode us vs h rest = (h, rest)
inside-at l implode us vs h rest = (h, rest)
inside-at l (merge values) us vs h rest = (h, rest)
inside-at l (graph sources) us vs h rest = (h, rest)
inside-at l (switch values names) us vs h rest = (h, rest)

pub inside-unroll : (us : Vertices) → NoneInside us → NoneInside (unroll_all us)
inside-unroll no_vertices h = tt
inside-unroll (and_vertex (vertex l vs) us) h = inside-at l l.kind (unroll_all vs) (unroll_all us) (none-unroll_all vs h.0) (inside-unroll us h.1)

sensors-at : (l : Label) (k : Kind) (us vs : Vertices) → sensor_numbers (and_vertex (unrolled_at l k us) vs) ≡ sensor_number k ++ sensor_numbers vs
sensors-at l (repeat n feeds gives) us vs = refl
sensors-at l (sensor m) us vs = refl
sensors-at l (actuator m) us vs = refl
sensors-at l (constant v) us vs = refl
sensors-at l (delay v) us vs = refl
sensors-at l (function es) us vs = refl
sensors-at l explode us vs = refl
sensors-at l implode us vs = refl
sensors-at l (merge values) us vs = refl
sensors-at l (graph sources) us vs = refl
sensors-at l (switch values names) us vs = refl

actuators-at : (l : Label) (k : Kind) (us vs : Vertices) → actuator_numbers (and_vertex (unrolled_at l k us) vs) ≡ actuator_number k ++ actuator_numbers vs
actuators-at l (repeat n feeds gives) us vs = refl
actuators-at l (sensor m) us vs = refl
actuators-at l (actuator m) us vs = refl
actuators-at l (constant v) us vs = refl
actuators-at l (delay v) us vs = refl
actuators-at l (function es) us vs = refl
actuators-at l explode us vs = refl
actuators-at l implode us vs = refl
actuators-at l (merge values) us vs = refl
actuators-at l (graph sources) us vs = refl
actuators-at l (switch values names) us vs = refl

pub sensors-unroll : (us : Vertices) → sensor_numbers (unroll_all us) ≡ sensor_numbers us
sensors-unroll no_vertices = refl
sensors-unroll (and_vertex (vertex l vs) us) = sensors-at l l.kind (unroll_all vs) (unroll_all us) ∙ ap (λ ns. sensor_number l.kind ++ ns) (sensors-unroll us)

pub actuators-unroll : (us : Vertices) → actuator_numbers (unroll_all us) ≡ actuator_numbers us
actuators-unroll no_vertices = refl
actuators-unroll (and_vertex (vertex l vs) us) = actuators-at l l.kind (unroll_all vs) (unroll_all us) ∙ ap (λ ns. actuator_number l.kind ++ ns) (actuators-unroll us)

abbrev AreNumbered : List ℕ → Type 0
AreNumbered ns = ns ≡ numbers_below (length ns)

pub numbered-unroll : (us : Vertices) → AreEndsNumbered us → AreEndsNumbered (unroll_all us)
numbered-unroll us h = record {
  sensors = subst AreNumbered (sym (sensors-unroll us)) h.sensors;
  actuators = subst AreNumbered (sym (actuators-unroll us)) h.actuators;
}
