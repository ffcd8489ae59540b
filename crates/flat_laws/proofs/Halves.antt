-- In the flat list of a tree each set half stands right after its get half, under the same guards.
use Rattle.std.proofs.Common.{◌≡◌, ℕ, zero, suc, ◌+◌, List, [], ◌∷◌, ◌++◌, map, true, Option, Some, None, slice_get, refl, ap, ◌∙◌, subst}
use Rattle.algo_tree.specs.declared.Source.{Source}
use Rattle.algo_tree.specs.Level.{Path}
use Rattle.algo_tree.specs.Tree.{Label, Kind, sensor, actuator, constant, delay, function, explode, implode, merge, graph, switch, repeat, Vertex, vertex, Vertices, no_vertices, and_vertex}
use Rattle.algo_tree.specs.Counted.{operations as count}
use Rattle.flat_laws.specs.Flat.{Operation, Task, runs, gets, sets, is_get}
use Rattle.flat_laws.specs.Inlined.{wire, wirings, operation_of, stage_input, stages, inlined_by, inlined, inlined_all, operations}
use Rattle.syn_base.specs.Vectors.{Vector}

-- what stands before a set half
abbrev pub IsHalf : Task → Option Operation → Operation → Type 0
IsHalf (runs k) before op = Unit {0}
IsHalf (gets v) before op = Unit {0}
IsHalf sets None op = ⊥
IsHalf sets (Some get) op = (is_get get.task ≡ true) × (get.guards ≡ op.guards) × (get.ins ≡ [])

-- operations after this one, where there is one
abbrev pub Follow : Option Operation → List Operation → Type 0
Follow before [] = Unit {0}
Follow before (op ∷ ops) = IsHalf op.task before op × Follow (Some op) ops

follow-append : (before : Option Operation) (xs ys : List Operation) → Follow before xs → ((b : Option Operation) → Follow b ys) → Follow before (xs ++ ys)
follow-append before [] ys h k = k before
follow-append before (x ∷ xs) ys h k = (h.0, follow-append (Some x) xs ys h.1 k)

follow-stages : (W : Source → Source) (b : ℕ) (path : Path) (l : Label) (i : ℕ) (vs : List Vector) (p : Option Operation) → Follow p (stages W b path l i vs)
follow-stages W b path l i [] p = tt
follow-stages W b path l i (v ∷ vs) p = (tt, ((refl, refl, refl), follow-stages W (b + 2) path l (suc i) vs (Some (operation_of W path i l (stage_input b (map W l.ins) vs) [] sets))))

follow-by : (W : Source → Source) (b : ℕ) (at : Path → Path) (l : Label) (k : Kind) (inner : List Source → ℕ → (Path → Path) → List Operation)
    → ((own : List Source) (p : Option Operation) → Follow p (inner own b (λ q. at (l.part ∷ q)))) → (p : Option Operation) → Follow p (inlined_by W b at l k inner)
follow-by W b at l (graph outs) inner deep p = deep (map W l.ins) p
follow-by W b at l (delay vs) inner deep p = follow-stages W b (at (l.part ∷ [])) l 0 vs p
follow-by W b at l (switch values names) inner deep p = (tt, tt)
follow-by W b at l (repeat n feeds gives) inner deep p = (tt, tt)
follow-by W b at l (sensor n) inner deep p = (tt, tt)
follow-by W b at l (actuator n) inner deep p = (tt, tt)
follow-by W b at l (constant v) inner deep p = (tt, tt)
follow-by W b at l (function es) inner deep p = (tt, tt)
follow-by W b at l explode inner deep p = (tt, tt)
follow-by W b at l implode inner deep p = (tt, tt)
follow-by W b at l (merge values) inner deep p = (tt, tt)

mutual
  follow-vertex : (W : Source → Source) (b : ℕ) (at : Path → Path) (u : Vertex) (p : Option Operation) → Follow p (inlined W b at u)
  follow-vertex W b at (vertex l us) p = follow-by W b at l l.kind _ (λ own o. follow-all (wire (wirings b us) own) b (λ q. at (l.part ∷ q)) us o) p

  follow-all : (W : Source → Source) (b : ℕ) (at : Path → Path) (us : Vertices) (p : Option Operation) → Follow p (inlined_all W b at us)
  follow-all W b at no_vertices p = tt
  follow-all W b at (and_vertex u us) p = follow-append p (inlined W b at u) _ (follow-vertex W b at u p) (λ o. follow-all W (b + count u) at us o)

pub follow-main : (main : Vertex) → Follow None (operations main)
follow-main (vertex l us) = follow-all (wire (wirings 0 us) []) 0 (λ q. q) us None

pub follow-at : (before : Option Operation) (ops : List Operation) → Follow before ops → (u : ℕ) (s : Operation) → slice_get ops (suc u) ≡ Some s → s.task ≡ sets
    → (o : Operation) × (slice_get ops u ≡ Some o) × (is_get o.task ≡ true) × (o.guards ≡ s.guards) × (o.ins ≡ [])
follow-at before [] h u s is t = absurd (cc)
follow-at before (x ∷ []) h u s is t = absurd (cc)
follow-at before (x ∷ (y ∷ ops)) h zero s is t =
    let e : y ≡ s = cc in
    let half = subst (λ k. IsHalf k (Some x) y) (ap (λ (o : Operation). o.task) e ∙ t) h.1.0 in
    (x, refl, half.0, half.1 ∙ ap (λ (o : Operation). o.guards) e, half.2)
follow-at before (x ∷ (y ∷ ops)) h (suc u) s is t = follow-at (Some x) (y ∷ ops) h.1 u s is t
