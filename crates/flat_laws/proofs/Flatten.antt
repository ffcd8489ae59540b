-- The flat list has the meaning of its tree.
use Rattle.std.proofs.Common.{◌≡◌, ℕ, zero, suc, ◌+◌, List, [], ◌∷◌, ◌++◌, length, map, slice_index_or, Some, slice_get, refl, sym, ap, ap₂, ◌∙◌, subst, arith, zero-add}
use mathlib.Core.Path.{fun_ext}
use Rattle.std.proofs.lemmas.List.{append_assoc}
use Rattle.algo_tree.specs.declared.Source.{Source}
use Rattle.algo_tree.specs.Level.{State, Path}
use Rattle.algo_tree.specs.Order.{IsAcyclic}
use Rattle.algo_tree.proofs.Fuel.{out_is}
use Rattle.algo_tree.specs.Tree.{Label, Kind, sensor, actuator, constant, delay, function, explode, implode, merge, graph, switch, repeat, Vertex, vertex, Vertices, no_vertices, and_vertex}
use Rattle.algo_tree.specs.Meaning.{nodes, past, actuator_values, actuator_value, input_value}
use Rattle.flat_laws.specs.Flat.{Operation, Stages, stages_of, node_of, flat_level, flat_value, next_cells, flat_past, flat_taken, taken}
use Rattle.flat_laws.specs.Inlined.{wire, wirings, stages, inlined_by, inlined, inlined_all, operations}
use Rattle.algo_tree.specs.Counted.{operations as count, operations_in as count_all, operations_by as count_by}
use Rattle.algo_tree.specs.Ends.{IsNoEnd, HasNoEnds, AllNoEnds, NoneInside}
use Rattle.algo_tree.specs.Valid.{IsTree}
use Rattle.flat_laws.specs.Plain.{IsPlain}
use Rattle.flat_laws.proofs.Inlinable.{with_kind, IsKindInlinable, CanInline, AllCanInline, can_inline}
use Rattle.flat_laws.specs.SameMeaning.{KeepsFlat}
use Rattle.flat_laws.proofs.Wires.{long-plain_all, Meets, reads-all}
use Rattle.flat_laws.proofs.Long.{AllLong, first-level as long-first, next-level as long-next}
use Rattle.flat_laws.proofs.Leads.{Ends, Placed, each-level, each-at, acyclic-from_ends}
use Rattle.flat_laws.proofs.Cells.{first-level, next-level}
use Rattle.flat_graph.specs.Meaning.{no_state}
use Rattle.syn_base.specs.Vectors.{Vector, Values, vector_at}

length-map : {A B : Type 0} (f : A → B) (xs : List A) → length (map f xs) ≡ length xs
length-map f [] = refl
length-map f (x ∷ xs) = ap suc (length-map f xs)

get-mapped : {A B : Type 0} (f : A → B) (xs : List A) (y : A) (ys : List A) → slice_get (map f (xs ++ y ∷ ys)) (length xs) ≡ Some (f y)
get-mapped f [] y ys = refl
get-mapped f (x ∷ xs) y ys = get-mapped f xs y ys

placed-from : (cells : Stages) (xs ys : List Operation) → Placed (flat_level cells (xs ++ ys)) cells (length xs) ys
placed-from cells xs [] = tt
placed-from cells xs (y ∷ ys) = (
  get-mapped (node_of cells) xs y ys,
  subst (λ n. Placed (flat_level cells (xs ++ (y ∷ ys))) cells n ys) (snoc_length xs)
      (subst (λ zs. Placed (flat_level cells zs) cells (length (xs ++ y ∷ [])) ys) (append_assoc xs (y ∷ []) ys) (placed-from cells (xs ++ y ∷ []) ys)),
)
  where
    snoc_length : (xs : List Operation) → length (xs ++ y ∷ []) ≡ suc (length xs)
    snoc_length [] = refl
    snoc_length (x ∷ xs) = ap suc (snoc_length xs)

-- an operation's value is what it makes of the values of its sources
meets-from : (kept : State) (row : Values) (ops : List Operation) → IsAcyclic (flat_level (stages_of kept) ops)
    → (b : ℕ) (ys : List Operation) → Placed (flat_level (stages_of kept) ops) (stages_of kept) b ys
    → Meets row kept (flat_value ops row (stages_of kept)) (λ k. refl) b ys
meets-from kept row ops acyclic b [] h = tt
meets-from kept row ops acyclic b (y ∷ ys) h =
    ((λ p. ap (λ vs. vector_at vs p) (out_is (flat_level (stages_of kept) ops) acyclic row no_state [] b (node_of (stages_of kept) y) h.0)), meets-from kept row ops acyclic (suc b) ys h.1)

-- what is taken
taken-append : (look : Source → Vector) (xs ys : List Operation) → flat_taken look (xs ++ ys) ≡ flat_taken look xs ++ flat_taken look ys
taken-append look [] ys = refl
taken-append look (x ∷ xs) ys = ap (λ zs. taken look x x.task ++ zs) (taken-append look xs ys) ∙ sym (append_assoc (taken look x x.task) (flat_taken look xs) (flat_taken look ys))

module _ (V : Source → Vector) where
  -- the stages of a delay take nothing
  none-stages : (W : Source → Source) (b : ℕ) (path : Path) (l : Label) (i : ℕ) (vs : List Vector) → flat_taken V (stages W b path l i vs) ≡ []
  none-stages W b path l i [] = refl
  none-stages W b path l i (v ∷ vs) = none-stages W (b + 2) path l (suc i) vs

  none-by : (W : Source → Source) (b : ℕ) (at : Path → Path) (l : Label) (k : Kind)
      (inner : List Source → ℕ → (Path → Path) → List Operation) → ((own : List Source) (at' : Path → Path) → flat_taken V (inner own b at') ≡ []) → IsNoEnd k
      → flat_taken V (inlined_by W b at l k inner) ≡ []
  none-by W b at l (graph outs) inner deep h = deep (map W l.ins) (λ q. at (l.part ∷ q))
  none-by W b at l (actuator n) inner deep h = absurd h
  none-by W b at l (delay vs) inner deep h = none-stages W b (at (l.part ∷ [])) l 0 vs
  none-by W b at l (switch values names) inner deep h = refl
  none-by W b at l (repeat n feeds gives) inner deep h = refl
  none-by W b at l (sensor n) inner deep h = absurd h
  none-by W b at l (constant v) inner deep h = refl
  none-by W b at l (function es) inner deep h = refl
  none-by W b at l explode inner deep h = refl
  none-by W b at l implode inner deep h = refl
  none-by W b at l (merge values) inner deep h = refl

  mutual
    none-vertex : (W : Source → Source) (b : ℕ) (at : Path → Path) (u : Vertex) → HasNoEnds u → flat_taken V (inlined W b at u) ≡ []
    none-vertex W b at (vertex l us) h = none-by W b at l l.kind _ (λ own at'. none-all (wire (wirings b us) own) b at' us h.1) h.0

    none-all : (W : Source → Source) (b : ℕ) (at : Path → Path) (us : Vertices) → AllNoEnds us → flat_taken V (inlined_all W b at us) ≡ []
    none-all W b at no_vertices h = refl
    none-all W b at (and_vertex u us) h = taken-append V (inlined W b at u) (inlined_all W (b + count u) at us)
        ∙ ap₂ (λ xs ys. xs ++ ys) (none-vertex W b at u h.0) (none-all W (b + count u) at us h.1)

  input-wired : (W : Source → Source) (ss : List Source) → input_value V (map W ss) ≡ input_value (λ s. V (W s)) ss
  input-wired W [] = refl
  input-wired W (s ∷ ss) = refl

  taken-by : (W : Source → Source) (b : ℕ) (at : Path → Path) (l : Label) (k : Kind)
      (inner : List Source → ℕ → (Path → Path) → List Operation) → ((own : List Source) (at' : Path → Path) → flat_taken V (inner own b at') ≡ [])
      → flat_taken V (inlined_by W b at l k inner) ≡ actuator_value (λ s. V (W s)) l k
  taken-by W b at l (graph outs) inner deep = deep (map W l.ins) (λ q. at (l.part ∷ q))
  taken-by W b at l (actuator n) inner deep = ap (λ v. v ∷ []) (input-wired W l.ins)
  taken-by W b at l (delay vs) inner deep = none-stages W b (at (l.part ∷ [])) l 0 vs
  taken-by W b at l (switch values names) inner deep = refl
  taken-by W b at l (repeat n feeds gives) inner deep = refl
  taken-by W b at l (sensor n) inner deep = refl
  taken-by W b at l (constant v) inner deep = refl
  taken-by W b at l (function es) inner deep = refl
  taken-by W b at l explode inner deep = refl
  taken-by W b at l implode inner deep = refl
  taken-by W b at l (merge values) inner deep = refl

  taken-all : (W : Source → Source) (b : ℕ) (at : Path → Path) (us : Vertices) → NoneInside us → flat_taken V (inlined_all W b at us) ≡ actuator_values (λ s. V (W s)) us
  taken-all W b at no_vertices h = refl
  taken-all W b at (and_vertex (vertex l vs) us) h =
      taken-append V (inlined W b at (vertex l vs)) (inlined_all W (b + count (vertex l vs)) at us)
      ∙ ap₂ (λ xs ys. xs ++ ys) (taken-by W b at l l.kind _ (λ own at'. none-all (wire (wirings b vs) own) b at' vs h.0)) (taken-all W (b + count (vertex l vs)) at us h.1)

module _ (l : Label) (outs : List Source) (us : Vertices) (h : AllCanInline us) (level : IsKindInlinable (graph outs) l.guards (nodes us)) (inside : NoneInside us) where
  abbrev main : Vertex
  main = vertex (with_kind l (graph outs)) us

  abbrev ops : List Operation
  ops = operations main

  acyclic : (cells : Stages) → IsAcyclic (flat_level cells ops)
  acyclic cells =
      acyclic-from_ends (flat_level cells ops)
      (λ r lt. subst (Ends (flat_level cells ops)) (zero-add r)
      (each-at (flat_level cells ops) cells 0 ops
      (each-level (flat_level cells ops) cells [] 0 (λ q. q) us h level.1.0 tt (placed-from cells [] ops)) r
      (let e = length-map (node_of cells) ops in omega (arith, e, lt))))

  meets : (kept : State) (row : Values) → Meets row kept (flat_value ops row (stages_of kept)) (λ k. refl) 0 ops
  meets kept row = meets-from kept row ops (acyclic (stages_of kept)) 0 ops (placed-from (stages_of kept) [] ops)

  past-long : (rows : List Values) (k : ℕ) → AllLong us (past main rows k)
  past-long rows zero = long-first us h level.1.1
  past-long rows (suc k) = long-next (slice_index_or rows k []) us (past main rows k) [] h level.1.1 (past-long rows k)

  past-same : (rows : List Values) (k : ℕ) → flat_past ops rows k ≡ stages_of (past main rows k)
  past-same rows zero = fun_ext (λ q. fun_ext (λ j. first-level [] 0 (λ q. q) us (λ a b. refl) h level.1.1 q j))
  past-same rows (suc k) =
      let row = slice_index_or rows k [] in
      let kept = past main rows k in
      ap (λ (cells : Stages). next_cells (flat_value ops row cells) cells ops) (past-same rows k)
      ∙ fun_ext (λ q. fun_ext (λ j. next-level row kept (flat_value ops row (stages_of kept)) (λ k. refl) j [] 0 (λ q. q) us []
      (λ a b. refl) h (past-long rows k) level.1.0 level.1.1 (λ k. refl) (meets kept row) q))

  keeps : KeepsFlat main ops
  keeps = record {
    acyclic = acyclic;
    taken = λ rows k.
        let row = slice_index_or rows k [] in
        let kept = past main rows k in
        ap (λ (cells : Stages). flat_taken (flat_value ops row cells) ops) (past-same rows k)
        ∙ taken-all (flat_value ops row (stages_of kept)) (wire (wirings 0 us) []) 0 (λ q. q) us inside
        ∙ ap (λ (f : Source → Vector). actuator_values f us)
        (fun_ext (λ s. sym (reads-all row kept (flat_value ops row (stages_of kept)) (λ k. refl) us h [] 0 (λ q. q) [] level.1.0
        (λ k. refl) (meets kept row) s)));
    kept = λ rows k q i. ap (λ (cells : Stages). cells q i) (past-same rows k);
  }

keeps-from : (l : Label) (us : Vertices) → l.kind ≡ graph [] → CanInline (vertex l us) → NoneInside us → KeepsFlat (vertex l us) (operations (vertex l us))
keeps-from l us e h inside =
    subst (λ k. KeepsFlat (vertex (with_kind l k) us) (operations (vertex l us))) (sym e)
    (keeps l [] us h.1 (subst (λ k. IsKindInlinable k l.guards (nodes us)) e h.0) inside)

pub flatten-keeps : (main : Vertex) → IsTree main → IsPlain main → KeepsFlat main (operations main)
flatten-keeps (vertex l us) h plain = keeps-from l us h.portless.kind (can_inline [] (vertex l us) h.well h.typed plain) h.inside

pub flatten-count : (main : Vertex) → IsTree main → IsPlain main → length (operations main) ≡ count main
flatten-count (vertex l us) h plain =
    long-plain_all (wire (wirings 0 us) []) 0 (λ q. q) us plain.1 ∙ sym (ap (λ k. count_by k (count_all us)) h.portless.kind)
