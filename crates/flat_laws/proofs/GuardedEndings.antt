-- In a guarded tree sensors and actuators stand where they stood.
use Rattle.std.proofs.Common.{◌≡◌, ℤ, ℕ, suc, List, [], ◌∷◌, ◌++◌, length, refl, sym, ap, ◌∙◌, subst}
use Rattle.algo_tree.specs.declared.Guard.{Guard}
use Rattle.algo_tree.specs.Tree.{Label, Kind, sensor, actuator, constant, delay, function, explode, implode, merge, graph, switch, repeat, Vertex, vertex, Vertices, no_vertices, and_vertex}
use Rattle.algo_tree.specs.Code.{count_of, join}
use Rattle.algo_tree.specs.Ends.{IsNoEnd, HasNoEnds, AllNoEnds, NoneInside, sensor_number, actuator_number, sensor_numbers, actuator_numbers, AreEndsNumbered}
use Rattle.flat_laws.specs.Guarded.{own_guards, guard_for, merges, switch_inside, guarded_by, guarded, guarded_all, guarded_cases}
use Rattle.syn_base.specs.Numbers.{numbers_below}

none-joined : (us vs : Vertices) → AllNoEnds us → AllNoEnds vs → AllNoEnds (join us vs)
none-joined no_vertices vs h k = k
none-joined (and_vertex u us) vs h k = (h.0, none-joined us vs h.1 k)

none-merges : (d : List ℕ) (gs : List Guard) (m : ℕ) (values : List ℤ) (k : ℕ) (lens : List ℕ) (q : ℕ) (names : List (List ℕ)) → AllNoEnds (merges d gs m values k lens q names)
none-merges d gs m values k lens q [] = tt
none-merges d gs m values k lens q (x ∷ names) = ((tt, tt), none-merges d gs m values k lens (suc q) names)

none-switch : (gs : List Guard) (l : Label) (values : List ℤ) (names : List (List ℕ)) (k : ℕ) (es : Vertices) → AllNoEnds es → AllNoEnds (switch_inside gs l values names k es)
none-switch gs l values names k es h = none-joined es _ h (none-merges l.definition (own_guards 0 gs) (length gs) values k l.outs 0 names)

-- what becomes of the vertices inside a graph, and of the cases of a switch
module _ (gs : List Guard) (n : ℕ) (l : Label) (us : Vertices) (inner : List Guard → ℕ → Vertices) (cases : List Guard → ℕ → List ℤ → Vertices)
    (a : AllNoEnds (inner (own_guards 0 gs) (length gs))) (b : (values : List ℤ) → AllNoEnds (cases (own_guards 0 gs) (length gs) values)) where
  none-by : (k : Kind) → IsNoEnd k → HasNoEnds (guarded_by gs n l k us inner cases)
  none-by (graph outs) h = (tt, a)
  none-by (switch values names) h = (tt, none-switch gs l values names (count_of us) (cases (own_guards 0 gs) (length gs) values) (b values))
  none-by (repeat m feeds gives) h = (tt, tt)
  none-by (sensor m) h = (h, tt)
  none-by (actuator m) h = (h, tt)
  none-by (constant v) h = (h, tt)
  none-by (delay v) h = (h, tt)
  none-by (function es) h = (h, tt)
  none-by explode h = (h, tt)
  none-by implode h = (h, tt)
  none-by (merge values) h = (h, tt)

  -- a vertex of the main graph, which may itself be an end
  inside-by : (k : Kind) (vs : Vertices) → NoneInside vs → NoneInside (and_vertex (guarded_by gs n l k us inner cases) vs)
  inside-by (graph outs) vs rest = (a, rest)
  inside-by (switch values names) vs rest = (none-switch gs l values names (count_of us) (cases (own_guards 0 gs) (length gs) values) (b values), rest)
  inside-by (repeat m feeds gives) vs rest = (tt, rest)
  inside-by (sensor m) vs rest = (tt, rest)
  inside-by (actuator m) vs rest = (tt, rest)
  inside-by (constant v) vs rest = (tt, rest)
  inside-by (delay v) vs rest = (tt, rest)
  inside-by (function es) vs rest = (tt, rest)
  inside-by explode vs rest = (tt, rest)
  inside-by implode vs rest = (tt, rest)
  inside-by (merge values) vs rest = (tt, rest)

mutual
  none-guarded : (gs : List Guard) (n : ℕ) (u : Vertex) → HasNoEnds u → HasNoEnds (guarded gs n u)
  none-guarded gs n (vertex l us) h =
      none-by gs n l us (λ inside m. guarded_all inside m us) (λ inside m values. guarded_cases inside m values 0 us)
      (none-all (own_guards 0 gs) (length gs) us h.1) (λ values. none-cases (own_guards 0 gs) (length gs) values 0 us h.1) l.kind h.0

  none-all : (gs : List Guard) (n : ℕ) (us : Vertices) → AllNoEnds us → AllNoEnds (guarded_all gs n us)
  none-all gs n no_vertices h = tt
  none-all gs n (and_vertex u us) h = (none-guarded gs n u h.0, none-all gs n us h.1)

  none-cases : (gs : List Guard) (m : ℕ) (values : List ℤ) (i : ℕ) (us : Vertices) → AllNoEnds us → AllNoEnds (guarded_cases gs m values i us)
  none-cases gs m values i no_vertices h = tt
  none-cases gs m values i (and_vertex u us) h = (none-guarded (gs ++ guard_for m values i ∷ []) m u h.0, none-cases gs m values (suc i) us h.1)

pub inside-guarded : (gs : List Guard) (n : ℕ) (us : Vertices) → NoneInside us → NoneInside (guarded_all gs n us)
inside-guarded gs n no_vertices h = tt
inside-guarded gs n (and_vertex (vertex l vs) us) h =
    inside-by gs n l vs (λ inside m. guarded_all inside m vs) (λ inside m values. guarded_cases inside m values 0 vs)
    (none-all (own_guards 0 gs) (length gs) vs h.0) (λ values. none-cases (own_guards 0 gs) (length gs) values 0 vs h.0) l.kind
    (guarded_all gs n us) (inside-guarded gs n us h.1)

module _ (gs : List Guard) (n : ℕ) (l : Label) (us : Vertices) (inner : List Guard → ℕ → Vertices) (cases : List Guard → ℕ → List ℤ → Vertices) (vs : Vertices) where
  sensors-by : (k : Kind) → sensor_numbers (and_vertex (guarded_by gs n l k us inner cases) vs) ≡ sensor_number k ++ sensor_numbers vs
  sensors-by (graph outs) = refl
  sensors-by (switch values names) = refl
  sensors-by (repeat m feeds gives) = refl
  sensors-by (sensor m) = refl
  sensors-by (actuator m) = refl
  sensors-by (constant v) = refl
  sensors-by (delay v) = refl
  sensors-by (function es) = refl
  sensors-by explode = refl
  sensors-by implode = refl
  sensors-by (merge values) = refl

  actuators-by : (k : Kind) → actuator_numbers (and_vertex (guarded_by gs n l k us inner cases) vs) ≡ actuator_number k ++ actuator_numbers vs
  actuators-by (graph outs) = refl
  actuators-by (switch values names) = refl
  actuators-by (repeat m feeds gives) = refl
  actuators-by (sensor m) = refl
  actuators-by (actuator m) = refl
  actuators-by (constant v) = refl
  actuators-by (delay v) = refl
  actuators-by (function es) = refl
  actuators-by explode = refl
  actuators-by implode = refl
  actuators-by (merge values) = refl

sensors-guarded : (gs : List Guard) (n : ℕ) (us : Vertices) → sensor_numbers (guarded_all gs n us) ≡ sensor_numbers us
sensors-guarded gs n no_vertices = refl
sensors-guarded gs n (and_vertex (vertex l vs) us) =
    sensors-by gs n l vs (λ inside m. guarded_all inside m vs) (λ inside m values. guarded_cases inside m values 0 vs)
    (guarded_all gs n us) l.kind ∙ ap (λ ns. sensor_number l.kind ++ ns) (sensors-guarded gs n us)

actuators-guarded : (gs : List Guard) (n : ℕ) (us : Vertices) → actuator_numbers (guarded_all gs n us) ≡ actuator_numbers us
actuators-guarded gs n no_vertices = refl
actuators-guarded gs n (and_vertex (vertex l vs) us) =
    actuators-by gs n l vs (λ inside m. guarded_all inside m vs) (λ inside m values. guarded_cases inside m values 0 vs)
    (guarded_all gs n us) l.kind ∙ ap (λ ns. actuator_number l.kind ++ ns) (actuators-guarded gs n us)

abbrev AreNumbered : List ℕ → Type 0
AreNumbered ns = ns ≡ numbers_below (length ns)

pub numbered-guarded : (gs : List Guard) (n : ℕ) (us : Vertices) → AreEndsNumbered us → AreEndsNumbered (guarded_all gs n us)
numbered-guarded gs n us h = record {
  sensors = subst AreNumbered (sym (sensors-guarded gs n us)) h.sensors;
  actuators = subst AreNumbered (sym (actuators-guarded gs n us)) h.actuators;
}
