-- Guarding makes vertices of names alone: where names stood, names stand.
use Rattle.std.proofs.Common.{ℤ, ℕ, suc, List, [], ◌∷◌, ◌++◌, length, sym, subst}
use Rattle.std.specs.Prelude.{IsTrue}
use Rattle.syn_base.specs.Name.{is_name}
use Rattle.algo_tree.specs.declared.Guard.{Guard}
use Rattle.algo_tree.specs.Tree.{Label, Kind, sensor, actuator, constant, delay, function, explode, implode, merge, graph, switch, repeat, Vertex, vertex, Vertices, no_vertices, and_vertex}
use Rattle.algo_tree.specs.Code.{count_of, join}
use Rattle.algo_tree.specs.Valid.{IsTree}
use Rattle.algo_tree.specs.Named.{AreNames, IsLabelNamed, IsNamed, AllNamed, HasNames}
use Rattle.algo_tree.specs.Relabelled.{with_kind}
use Rattle.flat_laws.specs.Guarded.{own_guards, guard_for, merges, guarded_by, guarded, guarded_all, guarded_cases, guard}

named-joined : (us vs : Vertices) → AllNamed us → AllNamed vs → AllNamed (join us vs)
named-joined no_vertices vs h k = k
named-joined (and_vertex u us) vs h k = (h.0, named-joined us vs h.1 k)

named-merges : (d : List ℕ) (gs : List Guard) (m : ℕ) (values : List ℤ) (k : ℕ) (lens : List ℕ) (q : ℕ) (names : List (List ℕ))
    → IsTrue (is_name d) → AreNames names → AllNamed (merges d gs m values k lens q names)
named-merges d gs m values k lens q [] h each = tt
named-merges d gs m values k lens q (x ∷ names) h each = ((record { part = each.0; definition = h; kind = tt }, tt), named-merges d gs m values k lens (suc q) names h each.1)

named-by : (gs : List Guard) (n : ℕ) (l : Label) (k : Kind) (us : Vertices) (inner : List Guard → ℕ → Vertices) (cases : List Guard → ℕ → List ℤ → Vertices) → IsLabelNamed (with_kind l k)
    → AllNamed (inner (own_guards 0 gs) (length gs)) → ((values : List ℤ) → AllNamed (cases (own_guards 0 gs) (length gs) values)) → IsNamed (guarded_by gs n l k us inner cases)
named-by gs n l (graph outs) us inner cases h a b = (record { part = h.part; definition = h.definition; kind = tt }, a)
named-by gs n l (switch values names) us inner cases h a b = (
  record { part = h.part; definition = h.definition; kind = tt },
  named-joined (cases (own_guards 0 gs) (length gs) values) _ (b values) (named-merges l.definition (own_guards 0 gs) (length gs) values (count_of us) l.outs 0 names h.definition h.kind),
)
named-by gs n l (repeat m feeds gives) us inner cases h a b = (record { part = h.part; definition = h.definition; kind = h.kind }, tt)
named-by gs n l (sensor m) us inner cases h a b = (record { part = h.part; definition = h.definition; kind = tt }, tt)
named-by gs n l (actuator m) us inner cases h a b = (record { part = h.part; definition = h.definition; kind = tt }, tt)
named-by gs n l (constant v) us inner cases h a b = (record { part = h.part; definition = h.definition; kind = tt }, tt)
named-by gs n l (delay v) us inner cases h a b = (record { part = h.part; definition = h.definition; kind = tt }, tt)
named-by gs n l (function es) us inner cases h a b = (record { part = h.part; definition = h.definition; kind = tt }, tt)
named-by gs n l explode us inner cases h a b = (record { part = h.part; definition = h.definition; kind = tt }, tt)
named-by gs n l implode us inner cases h a b = (record { part = h.part; definition = h.definition; kind = tt }, tt)
named-by gs n l (merge values) us inner cases h a b = (record { part = h.part; definition = h.definition; kind = tt }, tt)

mutual
  named : (gs : List Guard) (n : ℕ) (u : Vertex) → IsNamed u → IsNamed (guarded gs n u)
  named gs n (vertex l us) h =
      named-by gs n l l.kind us (λ inside m. guarded_all inside m us) (λ inside m values. guarded_cases inside m values 0 us) h.0
      (named-all (own_guards 0 gs) (length gs) us h.1) (λ values. named-cases (own_guards 0 gs) (length gs) values 0 us h.1)

  named-all : (gs : List Guard) (n : ℕ) (us : Vertices) → AllNamed us → AllNamed (guarded_all gs n us)
  named-all gs n no_vertices h = tt
  named-all gs n (and_vertex u us) h = (named gs n u h.0, named-all gs n us h.1)

  named-cases : (gs : List Guard) (m : ℕ) (values : List ℤ) (i : ℕ) (us : Vertices) → AllNamed us → AllNamed (guarded_cases gs m values i us)
  named-cases gs m values i no_vertices h = tt
  named-cases gs m values i (and_vertex u us) h = (named (gs ++ guard_for m values i ∷ []) m u h.0, named-cases gs m values (suc i) us h.1)

-- a main graph has the guarded vertices inside
pub names-guard : (main : Vertex) → IsTree main → HasNames main → HasNames (guard main)
names-guard (vertex l us) h names =
    subst (λ k. HasNames (guarded_by [] 0 l k us (λ inside m. guarded_all inside m us) (λ inside m values. guarded_cases inside m values 0 us))) (sym h.portless.kind) (named-all [] 0 us names)
