-- Afterwards nothing is a case, and what was not repeated is not repeated.
use Rattle.std.proofs.Common.{ℤ, ℕ, suc, List, [], ◌∷◌, ◌++◌, length}
use Rattle.algo_tree.specs.declared.Guard.{Guard}
use Rattle.algo_tree.specs.Tree.{Label, Kind, sensor, actuator, constant, delay, function, explode, implode, merge, graph, switch, repeat, Vertex, vertex, Vertices, no_vertices, and_vertex}
use Rattle.algo_tree.specs.Code.{count_of, join}
use Rattle.algo_tree.specs.NoRepeat.{IsNoRepeat, HasNoRepeat, AllNoRepeat}
use Rattle.flat_laws.specs.Guarded.{own_guards, guard_for, merges, guarded_by, guarded, guarded_all, guarded_cases}
use Rattle.flat_laws.specs.NoCase.{HasNoCase, AllNoCase}

no_case-joined : (us vs : Vertices) → AllNoCase us → AllNoCase vs → AllNoCase (join us vs)
no_case-joined no_vertices vs h k = k
no_case-joined (and_vertex u us) vs h k = (h.0, no_case-joined us vs h.1 k)

no_case-merges : (d : List ℕ) (gs : List Guard) (m : ℕ) (values : List ℤ) (k : ℕ) (lens : List ℕ) (q : ℕ) (names : List (List ℕ)) → AllNoCase (merges d gs m values k lens q names)
no_case-merges d gs m values k lens q [] = tt
no_case-merges d gs m values k lens q (x ∷ names) = ((tt, tt), no_case-merges d gs m values k lens (suc q) names)

no_case-by : (gs : List Guard) (n : ℕ) (l : Label) (k : Kind) (us : Vertices) (inner : List Guard → ℕ → Vertices) (cases : List Guard → ℕ → List ℤ → Vertices)
    → AllNoCase (inner (own_guards 0 gs) (length gs)) → ((values : List ℤ) → AllNoCase (cases (own_guards 0 gs) (length gs) values)) → HasNoCase (guarded_by gs n l k us inner cases)
no_case-by gs n l (graph outs) us inner cases a b = (tt, a)
no_case-by gs n l (switch values names) us inner cases a b =
    (tt, no_case-joined (cases (own_guards 0 gs) (length gs) values) _ (b values) (no_case-merges l.definition (own_guards 0 gs) (length gs) values (count_of us) l.outs 0 names))
no_case-by gs n l (repeat m feeds gives) us inner cases a b = (tt, tt)
no_case-by gs n l (sensor m) us inner cases a b = (tt, tt)
no_case-by gs n l (actuator m) us inner cases a b = (tt, tt)
no_case-by gs n l (constant v) us inner cases a b = (tt, tt)
no_case-by gs n l (delay v) us inner cases a b = (tt, tt)
no_case-by gs n l (function es) us inner cases a b = (tt, tt)
no_case-by gs n l explode us inner cases a b = (tt, tt)
no_case-by gs n l implode us inner cases a b = (tt, tt)
no_case-by gs n l (merge values) us inner cases a b = (tt, tt)

mutual
  pub no_case : (gs : List Guard) (n : ℕ) (u : Vertex) → HasNoCase (guarded gs n u)
  no_case gs n (vertex l us) =
      no_case-by gs n l l.kind us (λ inside m. guarded_all inside m us) (λ inside m values. guarded_cases inside m values 0 us)
      (no_case-all (own_guards 0 gs) (length gs) us) (λ values. no_case-cases (own_guards 0 gs) (length gs) values 0 us)

  no_case-all : (gs : List Guard) (n : ℕ) (us : Vertices) → AllNoCase (guarded_all gs n us)
  no_case-all gs n no_vertices = tt
  no_case-all gs n (and_vertex u us) = (no_case gs n u, no_case-all gs n us)

  no_case-cases : (gs : List Guard) (m : ℕ) (values : List ℤ) (i : ℕ) (us : Vertices) → AllNoCase (guarded_cases gs m values i us)
  no_case-cases gs m values i no_vertices = tt
  no_case-cases gs m values i (and_vertex u us) = (no_case (gs ++ guard_for m values i ∷ []) m u, no_case-cases gs m values (suc i) us)

no_repeat-joined : (us vs : Vertices) → AllNoRepeat us → AllNoRepeat vs → AllNoRepeat (join us vs)
no_repeat-joined no_vertices vs h k = k
no_repeat-joined (and_vertex u us) vs h k = (h.0, no_repeat-joined us vs h.1 k)

no_repeat-merges : (d : List ℕ) (gs : List Guard) (m : ℕ) (values : List ℤ) (k : ℕ) (lens : List ℕ) (q : ℕ) (names : List (List ℕ)) → AllNoRepeat (merges d gs m values k lens q names)
no_repeat-merges d gs m values k lens q [] = tt
no_repeat-merges d gs m values k lens q (x ∷ names) = ((tt, tt), no_repeat-merges d gs m values k lens (suc q) names)

no_repeat-by : (gs : List Guard) (n : ℕ) (l : Label) (k : Kind) (us : Vertices) (inner : List Guard → ℕ → Vertices) (cases : List Guard → ℕ → List ℤ → Vertices) → IsNoRepeat k
    → AllNoRepeat (inner (own_guards 0 gs) (length gs)) → ((values : List ℤ) → AllNoRepeat (cases (own_guards 0 gs) (length gs) values)) → HasNoRepeat (guarded_by gs n l k us inner cases)
no_repeat-by gs n l (graph outs) us inner cases none a b = (tt, a)
no_repeat-by gs n l (switch values names) us inner cases none a b =
    (tt, no_repeat-joined (cases (own_guards 0 gs) (length gs) values) _ (b values) (no_repeat-merges l.definition (own_guards 0 gs) (length gs) values (count_of us) l.outs 0 names))
no_repeat-by gs n l (repeat m feeds gives) us inner cases none a b = absurd none
no_repeat-by gs n l (sensor m) us inner cases none a b = (tt, tt)
no_repeat-by gs n l (actuator m) us inner cases none a b = (tt, tt)
no_repeat-by gs n l (constant v) us inner cases none a b = (tt, tt)
no_repeat-by gs n l (delay v) us inner cases none a b = (tt, tt)
no_repeat-by gs n l (function es) us inner cases none a b = (tt, tt)
no_repeat-by gs n l explode us inner cases none a b = (tt, tt)
no_repeat-by gs n l implode us inner cases none a b = (tt, tt)
no_repeat-by gs n l (merge values) us inner cases none a b = (tt, tt)

mutual
  pub no_repeat : (gs : List Guard) (n : ℕ) (u : Vertex) → HasNoRepeat u → HasNoRepeat (guarded gs n u)
  no_repeat gs n (vertex l us) none =
      no_repeat-by gs n l l.kind us (λ inside m. guarded_all inside m us) (λ inside m values. guarded_cases inside m values 0 us) none.0
      (no_repeat-all (own_guards 0 gs) (length gs) us none.1) (λ values. no_repeat-cases (own_guards 0 gs) (length gs) values 0 us none.1)

  no_repeat-all : (gs : List Guard) (n : ℕ) (us : Vertices) → AllNoRepeat us → AllNoRepeat (guarded_all gs n us)
  no_repeat-all gs n no_vertices none = tt
  no_repeat-all gs n (and_vertex u us) none = (no_repeat gs n u none.0, no_repeat-all gs n us none.1)

  no_repeat-cases : (gs : List Guard) (m : ℕ) (values : List ℤ) (i : ℕ) (us : Vertices) → AllNoRepeat us → AllNoRepeat (guarded_cases gs m values i us)
  no_repeat-cases gs m values i no_vertices none = tt
  no_repeat-cases gs m values i (and_vertex u us) none = (no_repeat (gs ++ guard_for m values i ∷ []) m u none.0, no_repeat-cases gs m values (suc i) us none.1)
