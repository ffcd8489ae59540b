-- A guarded tree stands for as many flat operations as before.
use Rattle.std.proofs.Common.{◌≡◌, ℤ, ℕ, suc, ◌+◌, List, [], ◌∷◌, ◌++◌, length, refl, ap₂, ◌∙◌, arith}
use Rattle.algo_tree.specs.declared.Guard.{Guard}
use Rattle.algo_tree.specs.Tree.{Label, Kind, sensor, actuator, constant, delay, function, explode, implode, merge, graph, switch, repeat, Vertex, vertex, Vertices, no_vertices, and_vertex}
use Rattle.algo_tree.specs.Code.{count_of, join}
use Rattle.algo_tree.specs.Counted.{operations_by, operations, operations_in}
use Rattle.algo_tree.specs.NoRepeat.{IsNoRepeat, HasNoRepeat, AllNoRepeat}
use Rattle.flat_laws.specs.Guarded.{own_guards, guard_for, merges, guarded_by, guarded, guarded_all, guarded_cases}

counted-joined : (us vs : Vertices) → operations_in (join us vs) ≡ operations_in us + operations_in vs
counted-joined no_vertices vs = omega arith
counted-joined (and_vertex u us) vs = let more = counted-joined us vs in omega (arith, more)

counted-merges : (d : List ℕ) (gs : List Guard) (m : ℕ) (values : List ℤ) (k : ℕ) (lens : List ℕ) (q : ℕ) (names : List (List ℕ)) → operations_in (merges d gs m values k lens q names) ≡ length names
counted-merges d gs m values k lens q [] = refl
counted-merges d gs m values k lens q (x ∷ names) = let more = counted-merges d gs m values k lens (suc q) names in omega (arith, more)

counted-by : (gs : List Guard) (n : ℕ) (l : Label) (k : Kind) (us : Vertices) (inner : List Guard → ℕ → Vertices) (cases : List Guard → ℕ → List ℤ → Vertices) → IsNoRepeat k
    → operations_in (inner (own_guards 0 gs) (length gs)) ≡ operations_in us → ((values : List ℤ) → operations_in (cases (own_guards 0 gs) (length gs) values) ≡ operations_in us)
    → operations (guarded_by gs n l k us inner cases) ≡ operations_by k (operations_in us)
counted-by gs n l (graph outs) us inner cases none a b = a
counted-by gs n l (switch values names) us inner cases none a b =
    counted-joined (cases (own_guards 0 gs) (length gs) values) _ ∙ ap₂ (λ x y. x + y) (b values) (counted-merges l.definition (own_guards 0 gs) (length gs) values (count_of us) l.outs 0 names)
counted-by gs n l (repeat m feeds gives) us inner cases none a b = absurd none
counted-by gs n l (sensor m) us inner cases none a b = refl
counted-by gs n l (actuator m) us inner cases none a b = refl
counted-by gs n l (constant v) us inner cases none a b = refl
counted-by gs n l (delay v) us inner cases none a b = refl
counted-by gs n l (function es) us inner cases none a b = refl
counted-by gs n l explode us inner cases none a b = refl
counted-by gs n l implode us inner cases none a b = refl
counted-by gs n l (merge values) us inner cases none a b = refl

mutual
  pub counted-guarded : (gs : List Guard) (n : ℕ) (u : Vertex) → HasNoRepeat u → operations (guarded gs n u) ≡ operations u
  counted-guarded gs n (vertex l us) none =
      counted-by gs n l l.kind us (λ inside m. guarded_all inside m us) (λ inside m values. guarded_cases inside m values 0 us) none.0
      (counted-all (own_guards 0 gs) (length gs) us none.1) (λ values. counted-cases (own_guards 0 gs) (length gs) values 0 us none.1)

  counted-all : (gs : List Guard) (n : ℕ) (us : Vertices) → AllNoRepeat us → operations_in (guarded_all gs n us) ≡ operations_in us
  counted-all gs n no_vertices none = refl
  counted-all gs n (and_vertex u us) none = ap₂ (λ x y. x + y) (counted-guarded gs n u none.0) (counted-all gs n us none.1)

  counted-cases : (gs : List Guard) (m : ℕ) (values : List ℤ) (i : ℕ) (us : Vertices) → AllNoRepeat us → operations_in (guarded_cases gs m values i us) ≡ operations_in us
  counted-cases gs m values i no_vertices none = refl
  counted-cases gs m values i (and_vertex u us) none = ap₂ (λ x y. x + y) (counted-guarded (gs ++ guard_for m values i ∷ []) m u none.0) (counted-cases gs m values (suc i) us none.1)
