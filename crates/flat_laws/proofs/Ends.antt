-- What a flat list tells of sensors and actuators alone, it tells of the vertices of the main graph, in order.
use Rattle.std.proofs.Common.{◌≡◌, ℕ, suc, ◌+◌, List, [], ◌∷◌, ◌++◌, map, append-nil, refl, sym, ap, ap₂, ◌∙◌}
use Rattle.std.proofs.lemmas.List.{append_assoc}
use Rattle.algo_tree.specs.declared.Source.{Source}
use Rattle.algo_tree.specs.Level.{Path}
use Rattle.algo_tree.specs.Tree.{Label, Kind, sensor, actuator, constant, delay, function, explode, implode, merge, graph, switch, repeat, Vertex, vertex, Vertices, no_vertices, and_vertex}
use Rattle.algo_tree.specs.Counted.{operations as count}
use Rattle.algo_tree.specs.Ends.{IsNoEnd, HasNoEnds, AllNoEnds, NoneInside}
use Rattle.algo_tree.specs.Meaning.{vertices_in}
use Rattle.flat_laws.specs.Flat.{Operation, Task, runs, gets, sets}
use Rattle.flat_laws.specs.Inlined.{wire, wirings, operation_of, stage_input, stages, inlined_by, inlined, inlined_all, operations}
use Rattle.syn_base.specs.Vectors.{Vector}

abbrev pub IsNoEndTask : Task → Type 0
IsNoEndTask (runs k) = IsNoEnd k
IsNoEndTask (gets v) = Unit {0}
IsNoEndTask sets = Unit {0}

module _ (told : Operation → List ℕ) (none : (op : Operation) → IsNoEndTask op.task → told op ≡ []) where
  abbrev pub told_in : List Operation → List ℕ
  told_in [] = []
  told_in (op ∷ ops) = told op ++ told_in ops

  told-append : (xs ys : List Operation) → told_in (xs ++ ys) ≡ told_in xs ++ told_in ys
  told-append [] ys = refl
  told-append (x ∷ xs) ys = ap (λ zs. told x ++ zs) (told-append xs ys) ∙ sym (append_assoc (told x) (told_in xs) (told_in ys))

  -- a vertex of the main graph, as one operation
  abbrev pub alone : (Source → Source) → (Path → Path) → Label → Kind → Operation
  alone W at l k = operation_of W (at (l.part ∷ [])) 0 l (map W l.ins) l.outs (runs k)

  abbrev pub told_of : (Source → Source) → (Path → Path) → Vertices → List ℕ
  told_of W at no_vertices = []
  told_of W at (and_vertex (vertex l vs) us) = told (alone W at l l.kind) ++ told_of W at us

  none-one : (op : Operation) → IsNoEndTask op.task → told op ++ [] ≡ []
  none-one op h = ap (λ xs. xs ++ []) (none op h)

  none-stages : (W : Source → Source) (b : ℕ) (path : Path) (l : Label) (i : ℕ) (vs : List Vector) → told_in (stages W b path l i vs) ≡ []
  none-stages W b path l i [] = refl
  none-stages W b path l i (v ∷ vs) =
      ap₂ (λ xs ys. xs ++ (ys ++ told_in (stages W (b + 2) path l (suc i) vs)))
      (none (operation_of W path i l [] l.outs (gets v)) tt) (none (operation_of W path i l (stage_input b (map W l.ins) vs) [] sets) tt)
      ∙ none-stages W (b + 2) path l (suc i) vs

  none-by : (W : Source → Source) (b : ℕ) (at : Path → Path) (l : Label) (k : Kind) (inner : List Source → ℕ → (Path → Path) → List Operation)
      → ((own : List Source) (below : Path → Path) → told_in (inner own b below) ≡ []) → IsNoEnd k → told_in (inlined_by W b at l k inner) ≡ []
  none-by W b at l (graph outs) inner deep h = deep (map W l.ins) (λ q. at (l.part ∷ q))
  none-by W b at l (delay v) inner deep h = none-stages W b (at (l.part ∷ [])) l 0 v
  none-by W b at l (sensor n) inner deep h = absurd h
  none-by W b at l (actuator n) inner deep h = absurd h
  none-by W b at l (switch values names) inner deep h = none-one (alone W at l (switch values names)) h
  none-by W b at l (repeat n feeds gives) inner deep h = none-one (alone W at l (repeat n feeds gives)) h
  none-by W b at l (constant v) inner deep h = none-one (alone W at l (constant v)) h
  none-by W b at l (function es) inner deep h = none-one (alone W at l (function es)) h
  none-by W b at l explode inner deep h = none-one (alone W at l explode) h
  none-by W b at l implode inner deep h = none-one (alone W at l implode) h
  none-by W b at l (merge values) inner deep h = none-one (alone W at l (merge values)) h

  mutual
    none-vertex : (W : Source → Source) (b : ℕ) (at : Path → Path) (u : Vertex) → HasNoEnds u → told_in (inlined W b at u) ≡ []
    none-vertex W b at (vertex l us) h = none-by W b at l l.kind _ (λ own below. none-all (wire (wirings b us) own) b below us h.1) h.0

    none-all : (W : Source → Source) (b : ℕ) (at : Path → Path) (us : Vertices) → AllNoEnds us → told_in (inlined_all W b at us) ≡ []
    none-all W b at no_vertices h = refl
    none-all W b at (and_vertex u us) h = told-append (inlined W b at u) (inlined_all W (b + count u) at us) ∙ ap₂ (λ xs ys. xs ++ ys) (none-vertex W b at u h.0) (none-all W (b + count u) at us h.1)

  main-by : (W : Source → Source) (b : ℕ) (at : Path → Path) (l : Label) (k : Kind) (inner : List Source → ℕ → (Path → Path) → List Operation)
      → ((own : List Source) (below : Path → Path) → told_in (inner own b below) ≡ []) → told_in (inlined_by W b at l k inner) ≡ told (alone W at l k)
  main-by W b at l (graph outs) inner deep = deep (map W l.ins) (λ q. at (l.part ∷ q)) ∙ sym (none (alone W at l (graph outs)) tt)
  main-by W b at l (delay v) inner deep =
      none-stages W b (at (l.part ∷ [])) l 0 v ∙ sym (none (alone W at l (delay v)) tt)
  main-by W b at l (sensor n) inner deep = append-nil (told (alone W at l (sensor n)))
  main-by W b at l (actuator n) inner deep = append-nil (told (alone W at l (actuator n)))
  main-by W b at l (switch values names) inner deep = append-nil (told (alone W at l (switch values names)))
  main-by W b at l (repeat n feeds gives) inner deep = append-nil (told (alone W at l (repeat n feeds gives)))
  main-by W b at l (constant v) inner deep = append-nil (told (alone W at l (constant v)))
  main-by W b at l (function es) inner deep = append-nil (told (alone W at l (function es)))
  main-by W b at l explode inner deep = append-nil (told (alone W at l explode))
  main-by W b at l implode inner deep = append-nil (told (alone W at l implode))
  main-by W b at l (merge values) inner deep = append-nil (told (alone W at l (merge values)))

  main-all : (W : Source → Source) (b : ℕ) (at : Path → Path) (us : Vertices) → NoneInside us → told_in (inlined_all W b at us) ≡ told_of W at us
  main-all W b at no_vertices h = refl
  main-all W b at (and_vertex (vertex l vs) us) h =
      told-append (inlined W b at (vertex l vs)) (inlined_all W (b + count (vertex l vs)) at us)
      ∙ ap₂ (λ xs ys. xs ++ ys) (main-by W b at l l.kind _ (λ own below. none-all (wire (wirings b vs) own) b below vs h.0)) (main-all W (b + count (vertex l vs)) at us h.1)

  -- the wires of the main graph
  abbrev pub main_wire : Vertex → Source → Source
  main_wire main = wire (wirings 0 (vertices_in main)) []

  pub told-main : (main : Vertex) → NoneInside (vertices_in main) → told_in (operations main) ≡ told_of (main_wire main) (λ q. q) (vertices_in main)
  told-main (vertex l us) h = main-all (wire (wirings 0 us) []) 0 (λ q. q) us h
