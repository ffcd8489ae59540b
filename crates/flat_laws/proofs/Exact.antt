-- A graph that stands for a list, with its bodies in order, is the one that is defined.
use Rattle.std.proofs.Common.{◌≡◌, ◌∙◌, ℕ, suc, ◌+◌, ◌<◌, ◌≤◌, List, [], ◌∷◌, ◌++◌, drop, length, map, Option, Some, refl, sym, ap, ap₂, subst, arith, add-zero, add-one}
use Rattle.std.proofs.Math.Seq.{drop-cons}
use Rattle.std.proofs.lemmas.List.{drop_all}
use Rattle.algo_tree.specs.Level.{Path}
use Rattle.flat_graph.specs.Expr.{Expr}
use Rattle.flat_graph.specs.declared.vertex.Source.{Source}
use Rattle.flat_graph.specs.declared.vertex.Guard.{Guard}
use Rattle.flat_graph.specs.declared.vertex.Kind.{Kind}
use Rattle.flat_graph.specs.declared.vertex.Kind.TheVariants.{Sensor, Actuator, Function, Constant, Get, Set, Explode, Implode, Merge}
use Rattle.flat_graph.specs.declared.vertex.Vertex.{Vertex}
use Rattle.flat_graph.specs.Graph.{Graph}
use Rattle.flat_graph.specs.Meaning.{level_source, level_guard}
use Rattle.flat_laws.specs.Flat.{Operation, Task, runs, gets, sets}
use Rattle.flat_laws.specs.Stands.{task_of, operation_at, IsTwin, StandsFor, AllStand, Stands}
use Rattle.flat_laws.specs.FlatOf.{flat_source, flat_guard, flat_kind, twin_of, body_of, vertex_of, vertices_from, bodies_of, graph_of}
use Rattle.flat_laws.specs.Names.{name_of}
use Rattle.flat_laws.specs.Numbering.{IsNumbered, AreNumbered, HasBodiesInOrder, body_count}

sources_back : (ss : List Source) → map flat_source (map level_source ss) ≡ ss
sources_back [] = refl
sources_back (s ∷ ss) = ap (λ (x : List Source). s ∷ x) (sources_back ss)

guards_back : (gs : List Guard) → map flat_guard (map level_guard gs) ≡ gs
guards_back [] = refl
guards_back (g ∷ gs) = ap (λ (x : List Guard). g ∷ x) (guards_back gs)

kind_back : (bodies : List (List Expr)) (b : ℕ) (k : Kind) → IsNumbered b k → flat_kind b (task_of bodies k) ≡ k
kind_back bodies b (Sensor i) h = refl
kind_back bodies b (Actuator i) h = refl
kind_back bodies b (Function c) h = ap (λ (n : ℕ). Function n) (sym h)
kind_back bodies b (Constant z) h = refl
kind_back bodies b (Get z) h = refl
kind_back bodies b Set h = refl
kind_back bodies b Explode h = refl
kind_back bodies b Implode h = refl
kind_back bodies b (Merge values) h = refl

twin_back : (v : ℕ) (t : Task) (twin : Option ℕ) → IsTwin v t twin → twin_of v t ≡ twin
twin_back v (gets vs) twin h = sym h
twin_back v sets twin (u, is, h) = ap (λ (n : ℕ). Some n) (omega (arith, is)) ∙ sym h
twin_back v (runs k) twin h = sym h

count_back : (bodies : List (List Expr)) (k : Kind) → length (body_of (task_of bodies k)) ≡ body_count k
count_back bodies (Sensor i) = refl
count_back bodies (Actuator i) = refl
count_back bodies (Function c) = refl
count_back bodies (Constant z) = refl
count_back bodies (Get z) = refl
count_back bodies Set = refl
count_back bodies Explode = refl
count_back bodies Implode = refl
count_back bodies (Merge values) = refl

-- one vertex
vertex_at : (bodies : List (List Expr)) (v b : ℕ) (x : Vertex) (q : Path) (i : ℕ) → IsNumbered b x.kind → x.name ≡ name_of (operation_at bodies q i x) → IsTwin v (task_of bodies x.kind) x.twin
    → vertex_of v b (operation_at bodies q i x) ≡ x
vertex_at bodies v b x q i h n t = rw (← n, kind_back bodies b x.kind h, guards_back x.guards, sources_back x.ins, twin_back v (task_of bodies x.kind) x.twin t) refl

vertex_back : (bodies : List (List Expr)) (v b : ℕ) (x : Vertex) (op : Operation) → StandsFor bodies v x op → IsNumbered b x.kind → vertex_of v b op ≡ x
vertex_back bodies v b x op s h =
    ap (vertex_of v b) s.same
    ∙ vertex_at bodies v b x op.path op.stage h (s.name ∙ ap name_of s.same) (subst (λ (o : Operation). IsTwin v o.task x.twin) s.same s.twin)

body_back : (bodies : List (List Expr)) (b : ℕ) (k : Kind) → IsNumbered b k → b + body_count k ≤ length bodies → body_of (task_of bodies k) ++ drop (b + body_count k) bodies ≡ drop b bodies
body_back bodies b (Function c) h few =
    let inside : b < length bodies = omega (arith, few) in
    rw (h, add-one b) (sym (drop-cons bodies b [] inside))
body_back bodies b (Sensor i) h few = rw add-zero refl
body_back bodies b (Actuator i) h few = rw add-zero refl
body_back bodies b (Constant z) h few = rw add-zero refl
body_back bodies b (Get z) h few = rw add-zero refl
body_back bodies b Set h few = rw add-zero refl
body_back bodies b Explode h few = rw add-zero refl
body_back bodies b Implode h few = rw add-zero refl
body_back bodies b (Merge values) h few = rw add-zero refl

-- operations that are numbered from v on, with the bodies from b on
record Backs (bodies : List (List Expr)) (v b : ℕ) (xs : List Vertex) (ops : List Operation) : Type 0 where
  vertices : vertices_from v b ops ≡ xs
  behind : bodies_of ops ≡ drop b bodies
  few : b ≤ length bodies

all_back : (bodies : List (List Expr)) (v b : ℕ) (xs : List Vertex) (ops : List Operation) → AllStand bodies v xs ops → AreNumbered b (length bodies) xs → Backs bodies v b xs ops
all_back bodies v b [] [] s h = record { vertices = refl; behind = sym (drop_all b bodies (omega (arith, h))); few = omega (arith, h) }
all_back bodies v b [] (op ∷ ops) s h = absurd s
all_back bodies v b (x ∷ xs) [] s h = absurd s
all_back bodies v b (x ∷ xs) (op ∷ ops) (s, ss) (h, hs) =
    let rest = all_back bodies (suc v) (b + body_count x.kind) xs ops ss hs in
    let task : op.task ≡ task_of bodies x.kind = ap (λ (o : Operation). o.task) s.same in
    let count : length (body_of op.task) ≡ body_count x.kind = ap (λ (t : Task). length (body_of t)) task ∙ count_back bodies x.kind in
    record {
      vertices = ap₂ (λ (y : Vertex) (ys : List Vertex). y ∷ ys) (vertex_back bodies v b x op s h) (ap (λ (n : ℕ). vertices_from (suc v) (b + n) ops) count ∙ rest.vertices);
      behind = ap₂ (λ (t : Task) (bs : List (List Expr)). body_of t ++ bs) task rest.behind ∙ body_back bodies b x.kind h rest.few;
      few = omega (arith, rest.few);
    }

pub exact : (g : Graph) (ops : List Operation) → Stands g ops → HasBodiesInOrder g → g ≡ graph_of ops
exact g ops s h =
    let back = all_back g.bodies 0 0 g.vertices ops s h in
    sym (ap₂ (λ (xs : List Vertex) (bs : List (List Expr)). record { vertices = xs; bodies = bs }) back.vertices back.behind)
