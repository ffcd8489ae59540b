-- Unrolling keeps the bounds: the numbers of copies are those below the number of a repetition.
use Rattle.std.proofs.Common.{ℕ, zero, suc, ◌≤◌, ◌^◌, List, [], ◌∷◌, ◌++◌, map, sym, subst, arith}
use Rattle.std.proofs.lemmas.List.{map-append}
use Rattle.algo_tree.specs.declared.Feed.{Feed}
use Rattle.algo_tree.specs.declared.Feed.TheVariants.{Fork, Diffuse, Iterate}
use Rattle.algo_tree.specs.declared.Give.{Give}
use Rattle.algo_tree.specs.declared.Give.TheVariants.{Last, Join}
use Rattle.algo_tree.specs.Tree.{Label, Kind, sensor, actuator, constant, delay, function, explode, implode, merge, graph, switch, repeat, Vertex, vertex, Vertices, no_vertices, and_vertex}
use Rattle.algo_tree.specs.Valid.{IsTree}
use Rattle.algo_tree.specs.View.{vertices_of}
use Rattle.flat_laws.specs.Lines.{in_line_order}
use Rattle.flat_laws.specs.Unrolled.{explodes, copy, copies, implodes, begin, unrolled_inside, unrolled_at, unroll, unroll_all}
use Rattle.algo_tree.specs.Bounded.{IsKindBounded, IsLabelBounded, IsBounded, AllBounded, HasBounds}
use Rattle.syn_base.specs.Numbers.{numbers_below}

abbrev EachBounded : List Vertex → Type 0
EachBounded [] = Unit {0}
EachBounded (u ∷ us) = IsBounded u × EachBounded us

all-from_each : (us : List Vertex) → EachBounded us → AllBounded (vertices_of us)
all-from_each [] h = tt
all-from_each (u ∷ us) h = (h.0, all-from_each us h.1)

each-append : (us vs : List Vertex) → EachBounded us → EachBounded vs → EachBounded (us ++ vs)
each-append [] vs h k = k
each-append (u ∷ us) vs h k = (h.0, each-append us vs h.1 k)

explodes-bounded : (d : List ℕ) (n : ℕ) (fs : List Feed) → EachBounded (explodes d n fs)
explodes-bounded d n [] = tt
explodes-bounded d n (Fork name k len ∷ fs) = ((record { part = tt; kind = tt }, tt), explodes-bounded d n fs)
explodes-bounded d n (Diffuse k ∷ fs) = explodes-bounded d n fs
explodes-bounded d n (Iterate k y ∷ fs) = explodes-bounded d n fs

implodes-bounded : (d : List ℕ) (c n : ℕ) (outs : List ℕ) (j : ℕ) (gs : List Give) → EachBounded (implodes d c n outs j gs)
implodes-bounded d c n outs j [] = tt
implodes-bounded d c n outs j (Join name y ∷ gs) = ((record { part = tt; kind = tt }, tt), implodes-bounded d c n outs (suc j) gs)
implodes-bounded d c n outs j (Last y ∷ gs) = implodes-bounded d c n outs (suc j) gs

module _ (c : ℕ) (feeds : List Feed) (body : Label) (us : Vertices) (kind : IsKindBounded body.kind body.outs) (inside : AllBounded us) where
  below-bounded : (n : ℕ) → n ≤ 2 ^ 32 → EachBounded (map (copy c feeds body us) (numbers_below n))
  below-bounded zero h = tt
  below-bounded (suc n) h =
      subst EachBounded (sym (map-append (copy c feeds body us) (numbers_below n) (n ∷ [])))
      (each-append (map (copy c feeds body us) (numbers_below n)) (copy c feeds body us n ∷ []) (below-bounded n (omega arith)) ((record { part = h; kind = kind }, inside), tt))

copies-bounded : (c : ℕ) (feeds : List Feed) (n : ℕ) (us : Vertices) → n ≤ 2 ^ 32 → AllBounded us → EachBounded (copies c feeds n us)
copies-bounded c feeds n no_vertices h k = tt
copies-bounded c feeds n (and_vertex (vertex body us) others) h k = below-bounded c feeds body us k.0.0.kind k.0.1 n h

unrolled-bounded : (l : Label) (k : Kind) (us : Vertices) → IsLabelBounded l → IsKindBounded k l.outs → AllBounded us → IsBounded (unrolled_at l k us)
unrolled-bounded l (repeat n feeds gives) us h k inside = (
  record { part = h.part; kind = tt },
  all-from_each (unrolled_inside l.definition n feeds gives l.outs us)
      (each-append (explodes l.definition n (in_line_order feeds)) _ (explodes-bounded l.definition n (in_line_order feeds))
      (each-append (copies (begin feeds) feeds n us) _ (copies-bounded (begin feeds) feeds n us k inside) (implodes-bounded l.definition (begin feeds) n l.outs 0 gives))),
)
unrolled-bounded l (sensor n) us h k inside = (record { part = h.part; kind = k }, inside)
unrolled-bounded l (actuator n) us h k inside = (record { part = h.part; kind = k }, inside)
unrolled-bounded l (constant v) us h k inside = (record { part = h.part; kind = k }, inside)
unrolled-bounded l (delay vs) us h k inside = (record { part = h.part; kind = k }, inside)
unrolled-bounded l (function es) us h k inside = (record { part = h.part; kind = k }, inside)
unrolled-bounded l explode us h k inside = (record { part = h.part; kind = k }, inside)
unrolled-bounded l implode us h k inside = (record { part = h.part; kind = k }, inside)
unrolled-bounded l (merge values) us h k inside = (record { part = h.part; kind = k }, inside)
unrolled-bounded l (graph outs) us h k inside = (record { part = h.part; kind = k }, inside)
unrolled-bounded l (switch values names) us h k inside = (record { part = h.part; kind = k }, inside)

mutual
  unroll-bounded : (u : Vertex) → IsBounded u → IsBounded (unroll u)
  unroll-bounded (vertex l us) h = unrolled-bounded l l.kind (unroll_all us) h.0 h.0.kind (all-unroll-bounded us h.1)

  all-unroll-bounded : (us : Vertices) → AllBounded us → AllBounded (unroll_all us)
  all-unroll-bounded no_vertices h = tt
  all-unroll-bounded (and_vertex u us) h = (unroll-bounded u h.0, all-unroll-bounded us h.1)

pub unroll-keeps : (main : Vertex) → IsTree main → HasBounds main → HasBounds (unroll main)
unroll-keeps (vertex l us) h k = subst (λ kind. HasBounds (unrolled_at l kind (unroll_all us))) (sym h.portless.kind) (all-unroll-bounded us k)
