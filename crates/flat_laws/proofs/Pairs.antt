-- In a flat list each get half is followed by its set half, and no two stages share a cell.
use Rattle.std.proofs.Common.{◌≡◌, ℕ, suc, ◌+◌, ◌<◌, ◌==◌, List, [], ◌∷◌, ◌++◌, map, Bool, true, false, ◌&&◌, refl, ap, ◌∙◌, subst, arith, ne_eqb}
use Rattle.std.proofs.lemmas.Bool.{false≢true}
use Rattle.algo_tree.specs.declared.Source.{Source}
use Rattle.algo_tree.specs.declared.Part.{Part}
use Rattle.algo_tree.specs.Level.{Path, Node}
use Rattle.algo_tree.specs.Parts.{IsApart, HasDistinctParts}
use Rattle.algo_tree.specs.Tree.{Label, Kind, sensor, actuator, constant, delay, function, explode, implode, merge, graph, switch, repeat, Vertex, vertex, Vertices, no_vertices, and_vertex}
use Rattle.algo_tree.specs.Meaning.{node, nodes}
use Rattle.flat_laws.specs.Flat.{Operation, Task, runs, gets, sets, same_path, is_cell, is_set, is_get}
use Rattle.flat_laws.specs.Inlined.{wire, wirings, operation_of, stage_input, stages, inlined_by, inlined, inlined_all, inlined_level, operations}
use Rattle.algo_tree.specs.Counted.{operations as count}
use Rattle.flat_laws.proofs.Inlinable.{IsKindInlinable, CanInline, AllCanInline, can_inline}
use Rattle.flat_laws.specs.Numbered.{SameCells}
use Rattle.flat_laws.proofs.Cells.{Keeps, keeps-below}
use Rattle.flat_laws.proofs.Numbered.{NoLater, Distinct, PairHead, Paired, same_cells}
use Rattle.algo_tree.specs.Valid.{IsTree}
use Rattle.flat_laws.specs.Plain.{IsPlain}
use Rattle.syn_base.specs.Vectors.{Vector}

abbrev pub AtAll : (Path → Type 0) → List Operation → Type 0
AtAll P [] = Unit {0}
AtAll P (op ∷ ops) = P op.path × AtAll P ops

pub all-append : (P : Path → Type 0) (xs ys : List Operation) → AtAll P xs → AtAll P ys → AtAll P (xs ++ ys)
all-append P [] ys h k = k
all-append P (x ∷ xs) ys h k = (h.0, all-append P xs ys h.1 k)

-- what holds at all paths below a vertex holds at its operations
module _ (P : Path → Type 0) where
  paths-stages : (W : Source → Source) (b : ℕ) (path : Path) (l : Label) (i : ℕ) (vs : List Vector) → P path → AtAll P (stages W b path l i vs)
  paths-stages W b path l i [] h = tt
  paths-stages W b path l i (v ∷ vs) h = (h, (h, paths-stages W (b + 2) path l (suc i) vs h))

  pub paths-by : (W : Source → Source) (b : ℕ) (at : Path → Path) (l : Label) (k : Kind)
      (inner : List Source → ℕ → (Path → Path) → List Operation) → ((own : List Source) → AtAll P (inner own b (λ q. at (l.part ∷ q))))
      → P (at (l.part ∷ [])) → AtAll P (inlined_by W b at l k inner)
  paths-by W b at l (graph outs) inner deep h = deep (map W l.ins)
  paths-by W b at l (delay vs) inner deep h = paths-stages W b (at (l.part ∷ [])) l 0 vs h
  paths-by W b at l (switch values names) inner deep h = (h, tt)
  paths-by W b at l (repeat n feeds gives) inner deep h = (h, tt)
  paths-by W b at l (sensor n) inner deep h = (h, tt)
  paths-by W b at l (actuator n) inner deep h = (h, tt)
  paths-by W b at l (constant v) inner deep h = (h, tt)
  paths-by W b at l (function es) inner deep h = (h, tt)
  paths-by W b at l explode inner deep h = (h, tt)
  paths-by W b at l implode inner deep h = (h, tt)
  paths-by W b at l (merge values) inner deep h = (h, tt)

  mutual
    pub paths-vertex : (W : Source → Source) (b : ℕ) (at : Path → Path) (u : Vertex) → ((q : Path) → P (at ((node u).part ∷ q))) → AtAll P (inlined W b at u)
    paths-vertex W b at (vertex l us) h = paths-by W b at l l.kind _ (λ own. paths-all (wire (wirings b us) own) b (λ q. at (l.part ∷ q)) us (λ y q. h (y ∷ q))) (h [])

    paths-all : (W : Source → Source) (b : ℕ) (at : Path → Path) (us : Vertices) → ((y : Part) (q : Path) → P (at (y ∷ q))) → AtAll P (inlined_all W b at us)
    paths-all W b at no_vertices h = tt
    paths-all W b at (and_vertex u us) h = all-append P (inlined W b at u) _ (paths-vertex W b at u (h (node u).part)) (paths-all W (b + count u) at us h)

abbrev NoPath : Path → List Operation → Type 0
NoPath x ops = AtAll (λ y. same_path x y ≡ false) ops

no_path-apart : (W : Source → Source) (b : ℕ) (at : Path → Path) (us : Vertices) (p : Part) (q : Path) → Keeps at → IsApart p (nodes us) → NoPath (at (p ∷ q)) (inlined_all W b at us)
no_path-apart W b at no_vertices p q keeps h = tt
no_path-apart W b at (and_vertex u us) p q keeps h =
    all-append (λ y. same_path (at (p ∷ q)) y ≡ false) (inlined W b at u) _
    (paths-vertex (λ y. same_path (at (p ∷ q)) y ≡ false) W b at u (λ a. keeps (p ∷ q) ((node u).part ∷ a) ∙ ap (λ t. t && same_path q a) h.0))
    (no_path-apart W (b + count u) at us p q keeps h.1)

module _ (test : Task → Bool) (one : (v : Vector) → test (gets v) ≡ true → test sets ≡ true → ⊥) where
  no_later-append : (x : Operation) (xs ys : List Operation) → NoLater test x xs → NoPath x.path ys → NoLater test x (xs ++ ys)
  no_later-append x [] [] h k = tt
  no_later-append x [] (y ∷ ys) h k = ((λ t. ap (λ b. b && (x.stage == y.stage)) k.0), no_later-append x [] ys tt k.1)
  no_later-append x (z ∷ xs) ys h k = (h.0, no_later-append x xs ys h.1 k)

  distinct-append : (xs ys : List Operation) → Distinct test xs → Distinct test ys → AtAll (λ x. NoPath x ys) xs → Distinct test (xs ++ ys)
  distinct-append [] ys h k a = k
  distinct-append (x ∷ xs) ys h k a = ((λ t. no_later-append x xs ys (h.0 t) a.0), distinct-append xs ys h.1 k a.1)

  and_false : (b : Bool) → (b && false) ≡ false
  and_false true = refl
  and_false false = refl

  -- later stages have other numbers
  later-stages : (x : Operation) (W : Source → Source) (b : ℕ) (path : Path) (l : Label) (i : ℕ) (vs : List Vector) → x.stage < i → NoLater test x (stages W b path l i vs)
  later-stages x W b path l i [] lt = tt
  later-stages x W b path l i (v ∷ vs) lt =
      let other : is_cell x path i ≡ false = ap (λ t. same_path x.path path && t) (ne_eqb x.stage i (λ e. omega (arith, e, lt))) ∙ and_false (same_path x.path path) in
      ((λ t. other), ((λ t. other), later-stages x W (b + 2) path l (suc i) vs (omega (arith, lt))))

  distinct-stages : (W : Source → Source) (b : ℕ) (path : Path) (l : Label) (i : ℕ) (vs : List Vector) → Distinct test (stages W b path l i vs)
  distinct-stages W b path l i [] = tt
  distinct-stages W b path l i (v ∷ vs) = (
    (λ t. ((λ t2. absurd (one v t t2)), later-stages (operation_of W path i l [] l.outs (gets v)) W (b + 2) path l (suc i) vs (omega arith))),
    (
      (λ t. later-stages (operation_of W path i l (stage_input b (map W l.ins) vs) [] sets) W (b + 2) path l (suc i) vs (omega arith)),
      distinct-stages W (b + 2) path l (suc i) vs,
    ),
  )

  distinct-by : (W : Source → Source) (b : ℕ) (at : Path → Path) (l : Label) (k : Kind) (cs : List Node)
      (inner : List Source → ℕ → (Path → Path) → List Operation) → IsKindInlinable k l.guards cs
      → ((own : List Source) → HasDistinctParts cs → Distinct test (inner own b (λ q. at (l.part ∷ q)))) → Distinct test (inlined_by W b at l k inner)
  distinct-by W b at l (graph outs) cs inner h deep = deep (map W l.ins) h.1.1
  distinct-by W b at l (delay vs) cs inner h deep = distinct-stages W b (at (l.part ∷ [])) l 0 vs
  distinct-by W b at l (switch values names) cs inner h deep = ((λ t. tt), tt)
  distinct-by W b at l (repeat n feeds gives) cs inner h deep = ((λ t. tt), tt)
  distinct-by W b at l (sensor n) cs inner h deep = ((λ t. tt), tt)
  distinct-by W b at l (actuator n) cs inner h deep = ((λ t. tt), tt)
  distinct-by W b at l (constant v) cs inner h deep = ((λ t. tt), tt)
  distinct-by W b at l (function es) cs inner h deep = ((λ t. tt), tt)
  distinct-by W b at l explode cs inner h deep = ((λ t. tt), tt)
  distinct-by W b at l implode cs inner h deep = ((λ t. tt), tt)
  distinct-by W b at l (merge values) cs inner h deep = ((λ t. tt), tt)

  mutual
    distinct-vertex : (W : Source → Source) (b : ℕ) (at : Path → Path) (u : Vertex) → Keeps at → CanInline u → Distinct test (inlined W b at u)
    distinct-vertex W b at (vertex l us) keeps h =
        distinct-by W b at l l.kind (nodes us) _ h.0 (λ own d. distinct-all (wire (wirings b us) own) b (λ q. at (l.part ∷ q)) us (keeps-below at l.part keeps) d h.1)

    distinct-all : (W : Source → Source) (b : ℕ) (at : Path → Path) (us : Vertices) → Keeps at → HasDistinctParts (nodes us) → AllCanInline us → Distinct test (inlined_all W b at us)
    distinct-all W b at no_vertices keeps d h = tt
    distinct-all W b at (and_vertex u us) keeps d h =
        distinct-append (inlined W b at u) _ (distinct-vertex W b at u keeps h.0) (distinct-all W (b + count u) at us keeps d.1 h.1)
        (paths-vertex (λ x. NoPath x (inlined_all W (b + count u) at us)) W b at u (λ q. no_path-apart W (b + count u) at us (node u).part q keeps d.0))

-- pairs
pair_head-append : (op : Operation) (t : Task) (xs ys : List Operation) → PairHead op t xs → PairHead op t (xs ++ ys)
pair_head-append op (runs k) xs ys h = tt
pair_head-append op sets xs ys h = tt
pair_head-append op (gets v) [] ys h = absurd h
pair_head-append op (gets v) (s ∷ xs) ys h = h

paired-append : (xs ys : List Operation) → Paired xs → Paired ys → Paired (xs ++ ys)
paired-append [] ys h k = k
paired-append (x ∷ xs) ys h k = (pair_head-append x x.task xs ys h.0, paired-append xs ys h.1 k)

paired-stages : (W : Source → Source) (b : ℕ) (path : Path) (l : Label) (i : ℕ) (vs : List Vector) → Paired (stages W b path l i vs)
paired-stages W b path l i [] = tt
paired-stages W b path l i (v ∷ vs) = ((refl, refl, refl), (tt, paired-stages W (b + 2) path l (suc i) vs))

paired-by : (W : Source → Source) (b : ℕ) (at : Path → Path) (l : Label) (k : Kind)
    (inner : List Source → ℕ → (Path → Path) → List Operation) → ((own : List Source) → Paired (inner own b (λ q. at (l.part ∷ q))))
    → Paired (inlined_by W b at l k inner)
paired-by W b at l (graph outs) inner deep = deep (map W l.ins)
paired-by W b at l (delay vs) inner deep = paired-stages W b (at (l.part ∷ [])) l 0 vs
paired-by W b at l (switch values names) inner deep = (tt, tt)
paired-by W b at l (repeat n feeds gives) inner deep = (tt, tt)
paired-by W b at l (sensor n) inner deep = (tt, tt)
paired-by W b at l (actuator n) inner deep = (tt, tt)
paired-by W b at l (constant v) inner deep = (tt, tt)
paired-by W b at l (function es) inner deep = (tt, tt)
paired-by W b at l explode inner deep = (tt, tt)
paired-by W b at l implode inner deep = (tt, tt)
paired-by W b at l (merge values) inner deep = (tt, tt)

mutual
  paired-vertex : (W : Source → Source) (b : ℕ) (at : Path → Path) (u : Vertex) → Paired (inlined W b at u)
  paired-vertex W b at (vertex l us) = paired-by W b at l l.kind _ (λ own. paired-all (wire (wirings b us) own) b (λ q. at (l.part ∷ q)) us)

  paired-all : (W : Source → Source) (b : ℕ) (at : Path → Path) (us : Vertices) → Paired (inlined_all W b at us)
  paired-all W b at no_vertices = tt
  paired-all W b at (and_vertex u us) = paired-append (inlined W b at u) _ (paired-vertex W b at u) (paired-all W (b + count u) at us)

same-level : (us : Vertices) → HasDistinctParts (nodes us) → AllCanInline us → SameCells (inlined_level [] 0 (λ q. q) us)
same-level us d h =
    let W = wire (wirings 0 us) [] in
    same_cells (inlined_all W 0 (λ q. q) us) (paired-all W 0 (λ q. q) us)
    (distinct-all is_set (λ v t t2. false≢true t) W 0 (λ q. q) us (λ a b. refl) d h) (distinct-all is_get (λ v t t2. false≢true t2) W 0 (λ q. q) us (λ a b. refl) d h)

pub same_cells-main : (main : Vertex) → IsTree main → IsPlain main → SameCells (operations main)
same_cells-main (vertex l us) h plain =
    let can = can_inline [] (vertex l us) h.well h.typed plain in
    same-level us (subst (λ k. IsKindInlinable k l.guards (nodes us)) h.portless.kind can.0).1.1 can.1

pub paired-main : (main : Vertex) → Paired (operations main)
paired-main (vertex l us) = paired-all (wire (wirings 0 us) []) 0 (λ q. q) us
