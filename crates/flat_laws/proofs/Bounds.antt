-- The functions of a flat list have as many outputs as those of the tree.
use Rattle.std.proofs.Common.{◌≡◌, ℕ, zero, suc, ◌+◌, List, [], ◌∷◌, ◌++◌, map, Some, slice_get, subst}
use Rattle.algo_tree.specs.declared.Source.{Source}
use Rattle.algo_tree.specs.Level.{Path}
use Rattle.algo_tree.specs.Tree.{Label, Kind, sensor, actuator, constant, delay, function, explode, implode, merge, graph, switch, repeat, Vertex, vertex, Vertices, no_vertices, and_vertex}
use Rattle.algo_tree.specs.Counted.{operations as count}
use Rattle.flat_laws.specs.Flat.{Operation, Task, runs, gets, sets}
use Rattle.flat_laws.specs.Inlined.{wire, wirings, stages, inlined_by, inlined, inlined_all, operations}
use Rattle.algo_tree.specs.Bounded.{IsKindBounded, IsBounded, AllBounded, HasBounds}
use Rattle.syn_base.specs.Vectors.{Vector}

abbrev pub IsTaskBounded : Task → List ℕ → Type 0
IsTaskBounded (runs k) outs = IsKindBounded k outs
IsTaskBounded (gets v) outs = Unit {0}
IsTaskBounded sets outs = Unit {0}

abbrev pub TasksBounded : List Operation → Type 0
TasksBounded [] = Unit {0}
TasksBounded (op ∷ ops) = IsTaskBounded op.task op.outs × TasksBounded ops

tasks-append : (xs ys : List Operation) → TasksBounded xs → TasksBounded ys → TasksBounded (xs ++ ys)
tasks-append [] ys h k = k
tasks-append (x ∷ xs) ys h k = (h.0, tasks-append xs ys h.1 k)

tasks-stages : (W : Source → Source) (b : ℕ) (path : Path) (l : Label) (i : ℕ) (vs : List Vector) → TasksBounded (stages W b path l i vs)
tasks-stages W b path l i [] = tt
tasks-stages W b path l i (v ∷ vs) = (tt, (tt, tasks-stages W (b + 2) path l (suc i) vs))

tasks-by : (W : Source → Source) (b : ℕ) (at : Path → Path) (l : Label) (k : Kind)
    (inner : List Source → ℕ → (Path → Path) → List Operation) → ((own : List Source) → TasksBounded (inner own b (λ q. at (l.part ∷ q))))
    → IsKindBounded k l.outs → TasksBounded (inlined_by W b at l k inner)
tasks-by W b at l (graph outs) inner deep h = deep (map W l.ins)
tasks-by W b at l (delay vs) inner deep h = tasks-stages W b (at (l.part ∷ [])) l 0 vs
tasks-by W b at l (switch values names) inner deep h = (h, tt)
tasks-by W b at l (repeat n feeds gives) inner deep h = (h, tt)
tasks-by W b at l (sensor n) inner deep h = (h, tt)
tasks-by W b at l (actuator n) inner deep h = (h, tt)
tasks-by W b at l (constant v) inner deep h = (h, tt)
tasks-by W b at l (function es) inner deep h = (h, tt)
tasks-by W b at l explode inner deep h = (h, tt)
tasks-by W b at l implode inner deep h = (h, tt)
tasks-by W b at l (merge values) inner deep h = (h, tt)

mutual
  tasks-vertex : (W : Source → Source) (b : ℕ) (at : Path → Path) (u : Vertex) → IsBounded u → TasksBounded (inlined W b at u)
  tasks-vertex W b at (vertex l us) h = tasks-by W b at l l.kind _ (λ own. tasks-all (wire (wirings b us) own) b (λ q. at (l.part ∷ q)) us h.1) h.0.kind

  tasks-all : (W : Source → Source) (b : ℕ) (at : Path → Path) (us : Vertices) → AllBounded us → TasksBounded (inlined_all W b at us)
  tasks-all W b at no_vertices h = tt
  tasks-all W b at (and_vertex u us) h = tasks-append (inlined W b at u) _ (tasks-vertex W b at u h.0) (tasks-all W (b + count u) at us h.1)

pub tasks-main : (main : Vertex) → HasBounds main → TasksBounded (operations main)
tasks-main (vertex l us) h = tasks-all (wire (wirings 0 us) []) 0 (λ q. q) us h

pub tasks-at : (ops : List Operation) → TasksBounded ops → (v : ℕ) (op : Operation) → slice_get ops v ≡ Some op → IsTaskBounded op.task op.outs
tasks-at [] h v op is = absurd (cc)
tasks-at (x ∷ ops) h zero op is = let e : x ≡ op = cc in subst (λ (o : Operation). IsTaskBounded o.task o.outs) e h.0
tasks-at (x ∷ ops) h (suc v) op is = tasks-at ops h.1 v op is
