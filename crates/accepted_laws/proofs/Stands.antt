-- The flat graph that is defined stands for the flat list of its tree.
use Rattle.std.proofs.Common.{◌≡◌, ℕ, zero, suc, ◌+◌, ◌≤◌, List, [], ◌∷◌, ◌++◌, map, length, Option, Some, None, refl, sym, ap, ap₂, ◌∙◌, subst, arith, zero-add, append_assoc, length-append}
use Rattle.std.specs.Prelude.{slice_get, slice_index_or}
use Rattle.std.proofs.lemmas.List.{get_or_at}
use Rattle.algo_laws.specs.Expr.{Expr}
use Rattle.algo_laws.specs.declared.Source.{Source}
use Rattle.algo_laws.specs.declared.Source.TheVariants.{Own, Of}
use Rattle.algo_laws.specs.declared.Guard.{Guard}
use Rattle.algo_laws.specs.Level.{Path}
use Rattle.algo_laws.specs.Tree as tree
use Rattle.algo_laws.specs.Tree.{Label, sensor, actuator, constant, delay, function, explode, implode, merge, graph, switch, repeat, vertex, Vertices, no_vertices, and_vertex}
use Rattle.algo_laws.specs.Counted.{operations as count}
use Rattle.algo_laws.specs.Typed.{AreLengths, AreGuardsTyped}
use Rattle.algo_laws.specs.Valid.{IsTree}
use Rattle.flat_graph.specs.declared.vertex.Vertex.{Vertex}
use Rattle.flat_graph.specs.Graph.{with_vertex}
use Rattle.flat_graph.specs.Meaning.{level_source, level_guard}
use Rattle.flat_laws.specs.Flat.{Operation, Task, runs, gets, sets}
use Rattle.flat_laws.specs.Inlined.{wire, wirings, stages, inlined_by, inlined, inlined_all, operations}
use Rattle.flat_laws.specs.Plain.{IsKindPlain, IsPlain, AllPlain}
use Rattle.flat_laws.specs.Unrolled.{unroll}
use Rattle.flat_laws.proofs.Unrepeated.{no-unroll}
use Rattle.flat_laws.proofs.UnrolledTrees.{tree-unroll}
use Rattle.flat_laws.specs.Guarded.{guard}
use Rattle.flat_laws.proofs.GuardedTrees.{tree-guard}
use Rattle.flat_laws.specs.FlatOf.{flat_source, flat_guard, flat_kind, twin_of, body_of, vertices_from, bodies_of, graph_of, flat_of}
use Rattle.flat_laws.specs.Stands.{task_of, IsTwin, AllStand, Stands}
use Rattle.flat_laws.proofs.Flattened as flattened
use Rattle.flat_laws.proofs.Halves.{IsHalf, Follow, follow-main}
use Rattle.flat_laws.proofs.KindTests.{long}
use Rattle.flat_laws.proofs.Fits.{AllFit, fit-main}
use Rattle.flat_laws.proofs.Lengths.{Outs}
use Rattle.flat_laws.proofs.Valid.{outs-from}
use Rattle.accepted_laws.specs.Flat.{FlatOfStands, FlatTakesTheSame, TreesHaveFlat}
use Rattle.syn_base.specs.Vectors.{Vector}

-- A task that a vertex of a flat graph tells: no graph, switch, repetition or delay is run.
abbrev IsSole : Task → Type 0
IsSole (runs (delay vs)) = ⊥
IsSole (runs (graph outs)) = ⊥
IsSole (runs (switch values names)) = ⊥
IsSole (runs (repeat n feeds gives)) = ⊥
IsSole (runs _) = Unit {0}
IsSole (gets v) = Unit {0}
IsSole sets = Unit {0}

abbrev AllSole : List Operation → Type 0
AllSole [] = Unit {0}
AllSole (op ∷ ops) = IsSole op.task × AllSole ops

sole-append : (xs ys : List Operation) → AllSole xs → AllSole ys → AllSole (xs ++ ys)
sole-append [] ys h k = k
sole-append (x ∷ xs) ys h k = (h.0, sole-append xs ys h.1 k)

sole-stages : (W : Source → Source) (b : ℕ) (path : Path) (l : Label) (i : ℕ) (vs : List Vector) → AllSole (stages W b path l i vs)
sole-stages W b path l i [] = tt
sole-stages W b path l i (v ∷ vs) = (tt, (tt, sole-stages W (b + 2) path l (suc i) vs))

sole-by : (W : Source → Source) (b : ℕ) (at : Path → Path) (l : Label) (k : tree.Kind) (inner : List Source → ℕ → (Path → Path) → List Operation)
    → ((own : List Source) → AllSole (inner own b (λ q. at (l.part ∷ q)))) → IsKindPlain k → AllSole (inlined_by W b at l k inner)
sole-by W b at l (graph outs) inner deep p = deep (map W l.ins)
sole-by W b at l (delay vs) inner deep p = sole-stages W b (at (l.part ∷ [])) l 0 vs
sole-by W b at l (switch values names) inner deep p = absurd p
sole-by W b at l (repeat n feeds gives) inner deep p = absurd p
sole-by W b at l (sensor n) inner deep p = (tt, tt)
sole-by W b at l (actuator n) inner deep p = (tt, tt)
sole-by W b at l (constant v) inner deep p = (tt, tt)
sole-by W b at l (function es) inner deep p = (tt, tt)
sole-by W b at l explode inner deep p = (tt, tt)
sole-by W b at l implode inner deep p = (tt, tt)
sole-by W b at l (merge values) inner deep p = (tt, tt)

mutual
  sole-vertex : (W : Source → Source) (b : ℕ) (at : Path → Path) (u : tree.Vertex) → IsPlain u → AllSole (inlined W b at u)
  sole-vertex W b at (vertex l us) p = sole-by W b at l l.kind _ (λ own. sole-all (wire (wirings b us) own) b (λ q. at (l.part ∷ q)) us p.1) p.0

  sole-all : (W : Source → Source) (b : ℕ) (at : Path → Path) (us : Vertices) → AllPlain us → AllSole (inlined_all W b at us)
  sole-all W b at no_vertices p = tt
  sole-all W b at (and_vertex u us) p = sole-append (inlined W b at u) _ (sole-vertex W b at u p.0) (sole-all W (b + count u) at us p.1)

sole-main : (main : tree.Vertex) → IsPlain main → AllSole (operations main)
sole-main (vertex l us) p = sole-all (wire (wirings 0 us) []) 0 (λ q. q) us p.1

-- what has a length is told by a flat source
module _ (vertices : List Vertex) where
  source-back : (s : Source) → 1 ≤ long vertices s → s ≡ level_source (flat_source s)
  source-back (Own k) h = absurd (omega (arith, h))
  source-back (Of r p) h = refl

  sources-back : (ss : List Source) → AreLengths (map (long vertices) ss) → ss ≡ map level_source (map flat_source ss)
  sources-back [] h = refl
  sources-back (s ∷ ss) h = ap₂ (λ x xs. x ∷ xs) (source-back s h.0.0) (sources-back ss h.1)

  guards-back : (gs : List Guard) → AreGuardsTyped (long vertices) gs → gs ≡ map level_guard (map flat_guard gs)
  guards-back [] h = refl
  guards-back (g ∷ gs) h = ap₂ (λ x xs. x ∷ xs) (λ i. record { source = source-back g.source (let one = h.0.0 in omega (arith, one)) i; values = g.values; case = g.case }) (guards-back gs h.1)

task-back : (bodies before rest : List (List Expr)) (b : ℕ) (t : Task) → IsSole t → bodies ≡ before ++ (body_of t ++ rest) → length before ≡ b → t ≡ task_of bodies (flat_kind b t)
task-back bodies before rest b (runs (sensor n)) s e l = refl
task-back bodies before rest b (runs (actuator n)) s e l = refl
task-back bodies before rest b (runs (constant v)) s e l = refl
task-back bodies before rest b (runs (function es)) s e l = ap (λ x. runs (function x)) (sym (ap (λ bs. slice_index_or bs b []) e ∙ get_or_at before es rest [] b l))
task-back bodies before rest b (runs explode) s e l = refl
task-back bodies before rest b (runs implode) s e l = refl
task-back bodies before rest b (runs (merge values)) s e l = refl
task-back bodies before rest b (runs (delay vs)) s e l = absurd s
task-back bodies before rest b (runs (graph outs)) s e l = absurd s
task-back bodies before rest b (runs (switch values names)) s e l = absurd s
task-back bodies before rest b (runs (repeat n feeds gives)) s e l = absurd s
task-back bodies before rest b (gets v) s e l = refl
task-back bodies before rest b sets s e l = refl

-- where an operation stands before this one, its number is not 0
abbrev Behind : Option Operation → ℕ → Type 0
Behind None v = Unit {0}
Behind (Some op) v = (u : ℕ) × (v ≡ suc u)

twin-back : (before : Option Operation) (op : Operation) (v : ℕ) (t : Task) → IsHalf t before op → Behind before v → IsTwin v t (twin_of v t)
twin-back before op v (runs k) h b = refl
twin-back before op v (gets z) h b = refl
twin-back None op v sets h b = absurd h
twin-back (Some get) op v sets h b = (b.0, b.1, ap (λ n. Some n) (let e = b.1 in omega (arith, e)))

stand-all : (vertices : List Vertex) (bodies before : List (List Expr)) (prev : Option Operation) (v b : ℕ) (ops : List Operation) → bodies ≡ before ++ bodies_of ops → length before ≡ b
    → AllSole ops → AllFit (long vertices) prev ops → Follow prev ops → Behind prev v → AllStand bodies v (vertices_from v b ops) ops
stand-all vertices bodies before prev v b [] e l s f h n = tt
stand-all vertices bodies before prev v b (op ∷ ops) e l s f h n = (
  record {
    same = λ i. record {
      path = op.path;
      stage = op.stage;
      definition = op.definition;
      ins = sources-back vertices op.ins f.0.ins i;
      guards = guards-back vertices op.guards f.0.guards i;
      outs = op.outs;
      task = task-back bodies before (bodies_of ops) b op.task s.0 e l i;
    };
    name = refl;
    twin = twin-back prev op v op.task h.0 n;
  },
  stand-all vertices bodies (before ++ body_of op.task) (Some op) (suc v) (b + length (body_of op.task)) ops (e ∙ sym (append_assoc before (body_of op.task) (bodies_of ops)))
      (length-append before (body_of op.task) ∙ ap (λ m. m + length (body_of op.task)) l) s.1 f.1 h.1 (v, refl),
)

-- the outputs of operations have the lengths of the vertices that stand for them
made-at : (p v b : ℕ) (ops : List Operation) (i : ℕ) (op : Operation) → slice_get ops i ≡ Some op
    → with_vertex (slice_get (vertices_from v b ops) i) 0 (λ x. slice_index_or x.outs p 0) ≡ slice_index_or op.outs p 0
made-at p v b [] i op is = absurd (cc)
made-at p v b (x ∷ ops) zero op is = let e : x ≡ op = cc in ap (λ (o : Operation). slice_index_or o.outs p 0) e
made-at p v b (x ∷ ops) (suc i) op is = made-at p (suc v) (b + length (body_of x.task)) ops i op is

outs-made : (ops : List Operation) → Outs (long (graph_of ops).vertices) (λ k. refl) 0 ops
outs-made ops = outs-from (graph_of ops).vertices 0 ops (λ i op is p. subst (λ m. long (graph_of ops).vertices (Of m p) ≡ slice_index_or op.outs p 0) (sym (zero-add i)) (made-at p 0 0 ops i op is))

inlined-stands : (main : tree.Vertex) → IsTree main → IsPlain main → Stands (graph_of (operations main)) (operations main)
inlined-stands main h plain =
    let ops = operations main in
    stand-all (graph_of ops).vertices (bodies_of ops) [] None 0 0 ops refl refl (sole-main main plain)
    (fit-main (long (graph_of ops).vertices) (λ k. refl) main h plain (outs-made ops)) (follow-main main) tt

pub flat_of_stands : FlatOfStands
flat_of_stands main h =
    inlined-stands (guard (unroll main)) (tree-guard (unroll main) (tree-unroll main h) (no-unroll main)) (flattened.flattened-plain main h)

pub trees_have_flat : TreesHaveFlat
trees_have_flat main h =
    let stands = flat_of_stands main h in
    record {
      tree = h;
      valid = flattened.flattened-flat main h (flat_of main) stands;
      lengths = flattened.flattened-lengths main h (flat_of main) stands;
      taken = λ rows k. (flattened.flattened-keeps main h (flat_of main) stands).taken rows k;
    }

pub flat_takes_the_same : FlatTakesTheSame
flat_takes_the_same main g h stands rows k = (flattened.flattened-keeps main h g stands).taken rows k
