-- Putting cases under guards keeps the bounds: parts stay, and merges stand for ports.
use Rattle.std.proofs.Common.{ℕ, suc, ℤ, List, [], ◌∷◌, ◌++◌, length, sym, subst}
use Rattle.algo_tree.specs.declared.Guard.{Guard}
use Rattle.algo_tree.specs.Code.{count_of, join}
use Rattle.algo_tree.specs.Tree.{Label, Kind, sensor, actuator, constant, delay, function, explode, implode, merge, graph, switch, repeat, Vertex, vertex, Vertices, no_vertices, and_vertex}
use Rattle.algo_tree.specs.Valid.{IsTree}
use Rattle.flat_laws.specs.Guarded.{own_guards, guard_for, merges, guarded_by, guarded, guarded_all, guarded_cases, guard}
use Rattle.algo_tree.specs.Bounded.{IsKindBounded, IsLabelBounded, IsBounded, AllBounded, HasBounds}

join-bounded : (us vs : Vertices) → AllBounded us → AllBounded vs → AllBounded (join us vs)
join-bounded no_vertices vs h k = k
join-bounded (and_vertex u us) vs h k = (h.0, join-bounded us vs h.1 k)

merges-bounded : (d : List ℕ) (gs : List Guard) (m : ℕ) (values : List ℤ) (k : ℕ) (outs : List ℕ) (q : ℕ) (names : List (List ℕ)) → AllBounded (merges d gs m values k outs q names)
merges-bounded d gs m values k outs q [] = tt
merges-bounded d gs m values k outs q (name ∷ names) = ((record { part = tt; kind = tt }, tt), merges-bounded d gs m values k outs (suc q) names)

guarded-bounded : (gs : List Guard) (n : ℕ) (l : Label) (k : Kind) (us : Vertices) (inner : List Guard → ℕ → Vertices)
    (cases : List Guard → ℕ → List ℤ → Vertices) → IsLabelBounded l → IsKindBounded k l.outs
    → ((hs : List Guard) (m : ℕ) → AllBounded (inner hs m)) → ((hs : List Guard) (m : ℕ) (values : List ℤ) → AllBounded (cases hs m values)) → IsBounded (guarded_by gs n l k us inner cases)
guarded-bounded gs n l (graph outs) us inner cases h k inside each = (record { part = h.part; kind = tt }, inside (own_guards 0 gs) (length gs))
guarded-bounded gs n l (switch values names) us inner cases h k inside each = (
  record { part = h.part; kind = tt },
  join-bounded (cases (own_guards 0 gs) (length gs) values) _ (each (own_guards 0 gs) (length gs) values)
      (merges-bounded l.definition (own_guards 0 gs) (length gs) values (count_of us) l.outs 0 names),
)
guarded-bounded gs n l (repeat m feeds gives) us inner cases h k inside each = (record { part = h.part; kind = k }, tt)
guarded-bounded gs n l (sensor m) us inner cases h k inside each = (record { part = h.part; kind = k }, tt)
guarded-bounded gs n l (actuator m) us inner cases h k inside each = (record { part = h.part; kind = k }, tt)
guarded-bounded gs n l (constant v) us inner cases h k inside each = (record { part = h.part; kind = k }, tt)
guarded-bounded gs n l (delay vs) us inner cases h k inside each = (record { part = h.part; kind = k }, tt)
guarded-bounded gs n l (function es) us inner cases h k inside each = (record { part = h.part; kind = k }, tt)
guarded-bounded gs n l explode us inner cases h k inside each = (record { part = h.part; kind = k }, tt)
guarded-bounded gs n l implode us inner cases h k inside each = (record { part = h.part; kind = k }, tt)
guarded-bounded gs n l (merge values) us inner cases h k inside each = (record { part = h.part; kind = k }, tt)

mutual
  vertex-bounded : (gs : List Guard) (n : ℕ) (u : Vertex) → IsBounded u → IsBounded (guarded gs n u)
  vertex-bounded gs n (vertex l us) h =
      guarded-bounded gs n l l.kind us _ _ h.0 h.0.kind (λ hs m. all-bounded hs m us h.1) (λ hs m values. cases-bounded hs m values 0 us h.1)

  all-bounded : (gs : List Guard) (n : ℕ) (us : Vertices) → AllBounded us → AllBounded (guarded_all gs n us)
  all-bounded gs n no_vertices h = tt
  all-bounded gs n (and_vertex u us) h = (vertex-bounded gs n u h.0, all-bounded gs n us h.1)

  cases-bounded : (gs : List Guard) (m : ℕ) (values : List ℤ) (i : ℕ) (us : Vertices) → AllBounded us → AllBounded (guarded_cases gs m values i us)
  cases-bounded gs m values i no_vertices h = tt
  cases-bounded gs m values i (and_vertex u us) h = (vertex-bounded (gs ++ guard_for m values i ∷ []) m u h.0, cases-bounded gs m values (suc i) us h.1)

pub guard-keeps : (main : Vertex) → IsTree main → HasBounds main → HasBounds (guard main)
guard-keeps (vertex l us) h k =
    subst (λ kind. HasBounds (guarded_by [] 0 l kind us (λ inside m. guarded_all inside m us) (λ inside m values. guarded_cases inside m values 0 us))) (sym h.portless.kind) (all-bounded [] 0 us k)
