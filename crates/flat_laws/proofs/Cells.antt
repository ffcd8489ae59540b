-- The cells of the flat list are the kept values of the tree, path by path and stage by stage.
use Rattle.std.proofs.Common.{
  ◌≡◌,
  ℕ,
  zero,
  suc,
  ◌+◌,
  ◌<◌,
  ◌≤◌,
  ◌==◌,
  List,
  [],
  ◌∷◌,
  ◌++◌,
  length,
  map,
  drop,
  slice_index_or,
  Bool,
  true,
  false,
  cond,
  ◌&&◌,
  Option,
  None,
  Some,
  refl,
  sym,
  ap,
  ap₂,
  ◌∙◌,
  subst,
  arith,
  eq-eqb,
  ne_eqb,
  zero-add,
  length-append,
}
use Rattle.std.specs.Prelude.{if◌then◌else◌}
use mathlib.Core.Path.{fun_ext}
use Rattle.std.proofs.lemmas.Bool.{false≢true, eqb-true}
use Rattle.std.proofs.lemmas.List.{append_assoc}
use Rattle.algo_tree.specs.declared.Source.{Source}
use Rattle.algo_tree.specs.declared.Source.TheVariants.{Own}
use Rattle.algo_tree.specs.declared.Guard.{Guard}
use Rattle.algo_tree.specs.declared.Part.{Part}
use Rattle.algo_tree.specs.Level.{State, Path, Node, all_hold, with_node, same_part, find_node, node_next, level_value, graph_next, graph_initial, delay_next}
use Rattle.algo_tree.specs.Parts.{IsApart, HasDistinctParts}
use Rattle.algo_tree.specs.Order.{IsAcyclic}
use Rattle.algo_tree.specs.Tree.{Label, Kind, sensor, actuator, constant, delay, function, explode, implode, merge, graph, switch, repeat, Vertex, vertex, Vertices, no_vertices, and_vertex}
use Rattle.algo_tree.specs.Meaning.{node, nodes}
use Rattle.algo_tree.proofs.SameParts.{same_itself, same_means}
use Rattle.flat_laws.specs.Flat.{Operation, Task, runs, gets, sets, Stages, stages_of, same_path, is_set, is_get, set_value, initial_value, pick, next_cells, first_cells}
use Rattle.flat_laws.specs.Inlined.{nowhere, wire, wirings, operation_of, stage_input, stages, inlined_by, inlined, inlined_all, inlined_level}
use Rattle.algo_tree.specs.Counted.{operations as count}
use Rattle.flat_laws.proofs.Inlinable.{with_kind, IsKindInlinable, CanInline, AllCanInline}
use Rattle.algo_tree.proofs.Lists.{map_map}
use Rattle.flat_laws.proofs.Long.{IsKindLong, IsLong, AllLong}
use Rattle.flat_laws.proofs.Wires.{long-inlined, Meets, meets-left, meets-right, hold-wired, own_wired, Reads, reads-all}
use Rattle.flat_graph.specs.Meaning.{no_state}
use Rattle.syn_base.specs.Vectors.{Vector, Values, vector_at, zeros}

-- paths below a level differ just where their rests do
abbrev pub Keeps : (Path → Path) → Type 0
Keeps at = (a b : Path) → same_path (at a) (at b) ≡ same_path a b

pub keeps-below : (at : Path → Path) (p : Part) → Keeps at → Keeps (λ q. at (p ∷ q))
keeps-below at p h a b = h (p ∷ a) (p ∷ b) ∙ ap (λ t. t && same_path a b) (same_itself p)

apart-other : (x y : Part) (b : Bool) → same_part y x ≡ b → same_part x y ≡ false → b ≡ false
apart-other x y true e h = absurd (false≢true (sym h ∙ ap (λ z. same_part x z) (same_means y x e) ∙ same_itself x))
apart-other x y false e h = refl

module _ (test : Task → Bool) (value : Operation → Vector) (other : Stages) (j : ℕ) where
  abbrev picked : List Operation → Path → Vector
  picked ops q = pick test value other ops q j

  skipped : (op : Operation) (ops : List Operation) (x : Path) → same_path op.path x ≡ false → picked (op ∷ ops) x ≡ picked ops x
  skipped op ops x h = ap (λ b. cond (test op.task && (b && (op.stage == j))) (value op) (picked ops x)) h ∙ ap (λ b. cond b (value op) (picked ops x)) (and_false (test op.task))
    where
      and_false : (b : Bool) → (b && false) ≡ false
      and_false true = refl
      and_false false = refl

  miss-stages : (W : Source → Source) (b : ℕ) (path : Path) (l : Label) (i : ℕ) (vs : List Vector) (more : List Operation) (x : Path)
      → same_path path x ≡ false → picked (stages W b path l i vs ++ more) x ≡ picked more x
  miss-stages W b path l i [] more x h = refl
  miss-stages W b path l i (v ∷ vs) more x h =
      let rest = stages W (b + 2) path l (suc i) vs ++ more in
      let set = operation_of W path i l (stage_input b (map W l.ins) vs) [] sets in
      skipped (operation_of W path i l [] l.outs (gets v)) (set ∷ rest) x h ∙ skipped set rest x h ∙ miss-stages W (b + 2) path l (suc i) vs more x h

  -- operations that stand elsewhere
  miss-by : (W : Source → Source) (b : ℕ) (at : Path → Path) (l : Label) (k : Kind) (inner : List Source → ℕ → (Path → Path) → List Operation) (more : List Operation) (x : Path)
      → ((own : List Source) → ((q : Path) → same_path (at (l.part ∷ q)) x ≡ false) → picked (inner own b (λ q. at (l.part ∷ q)) ++ more) x ≡ picked more x)
      → ((q : Path) → same_path (at (l.part ∷ q)) x ≡ false) → picked (inlined_by W b at l k inner ++ more) x ≡ picked more x
  miss-by W b at l (graph outs) inner more x deep h = deep (map W l.ins) h
  miss-by W b at l (delay vs) inner more x deep h = miss-stages W b (at (l.part ∷ [])) l 0 vs more x (h [])
  miss-by W b at l (switch values names) inner more x deep h = skipped (operation_of W (at (l.part ∷ [])) 0 l (map W l.ins) l.outs (runs (switch values names))) more x (h [])
  miss-by W b at l (repeat n feeds gives) inner more x deep h = skipped (operation_of W (at (l.part ∷ [])) 0 l (map W l.ins) l.outs (runs (repeat n feeds gives))) more x (h [])
  miss-by W b at l (sensor n) inner more x deep h = skipped (operation_of W (at (l.part ∷ [])) 0 l (map W l.ins) l.outs (runs (sensor n))) more x (h [])
  miss-by W b at l (actuator n) inner more x deep h = skipped (operation_of W (at (l.part ∷ [])) 0 l (map W l.ins) l.outs (runs (actuator n))) more x (h [])
  miss-by W b at l (constant v) inner more x deep h = skipped (operation_of W (at (l.part ∷ [])) 0 l (map W l.ins) l.outs (runs (constant v))) more x (h [])
  miss-by W b at l (function es) inner more x deep h = skipped (operation_of W (at (l.part ∷ [])) 0 l (map W l.ins) l.outs (runs (function es))) more x (h [])
  miss-by W b at l explode inner more x deep h = skipped (operation_of W (at (l.part ∷ [])) 0 l (map W l.ins) l.outs (runs explode)) more x (h [])
  miss-by W b at l implode inner more x deep h = skipped (operation_of W (at (l.part ∷ [])) 0 l (map W l.ins) l.outs (runs implode)) more x (h [])
  miss-by W b at l (merge values) inner more x deep h = skipped (operation_of W (at (l.part ∷ [])) 0 l (map W l.ins) l.outs (runs (merge values))) more x (h [])

  mutual
    miss-vertex : (W : Source → Source) (b : ℕ) (at : Path → Path) (u : Vertex) (more : List Operation) (x : Path)
        → ((q : Path) → same_path (at ((node u).part ∷ q)) x ≡ false) → picked (inlined W b at u ++ more) x ≡ picked more x
    miss-vertex W b at (vertex l us) more x h =
        miss-by W b at l l.kind _ more x (λ own h2. miss-all (wire (wirings b us) own) b (λ q. at (l.part ∷ q)) us more x (λ y q. h2 (y ∷ q))) h

    miss-all : (W : Source → Source) (b : ℕ) (at : Path → Path) (us : Vertices) (more : List Operation) (x : Path)
        → ((y : Part) (q : Path) → same_path (at (y ∷ q)) x ≡ false) → picked (inlined_all W b at us ++ more) x ≡ picked more x
    miss-all W b at no_vertices more x h = refl
    miss-all W b at (and_vertex u us) more x h =
        ap (λ ops. picked ops x) (append_assoc (inlined W b at u) (inlined_all W (b + count u) at us) more)
        ∙ miss-vertex W b at u (inlined_all W (b + count u) at us ++ more) x (h (node u).part) ∙ miss-all W (b + count u) at us more x h

  -- vertices with other parts
  miss-apart : (W : Source → Source) (b : ℕ) (at : Path → Path) (us : Vertices) (more : List Operation) (x : Part) (q : Path) → Keeps at
      → IsApart x (nodes us) → picked (inlined_all W b at us ++ more) (at (x ∷ q)) ≡ picked more (at (x ∷ q))
  miss-apart W b at no_vertices more x q keeps h = refl
  miss-apart W b at (and_vertex u us) more x q keeps h =
      ap (λ ops. picked ops (at (x ∷ q))) (append_assoc (inlined W b at u) (inlined_all W (b + count u) at us) more)
      ∙ miss-vertex W b at u (inlined_all W (b + count u) at us ++ more) (at (x ∷ q)) (λ a. keeps ((node u).part ∷ a) (x ∷ q) ∙ ap (λ t. t && same_path a q) (apart-other x (node u).part _ refl h.0))
      ∙ miss-apart W (b + count u) at us more x q keeps h.1

  -- what each vertex of a level tells at the paths below it
  module _ (R : Node → Path → Vector) where
    abbrev pub Hit : (Source → Source) → ℕ → (Path → Path) → Vertex → Type 0
    Hit W b at u = (more : List Operation) (q : Path) → picked more (at ((node u).part ∷ q)) ≡ other (at ((node u).part ∷ q)) j
        → picked (inlined W b at u ++ more) (at ((node u).part ∷ q)) ≡ R (node u) q

    abbrev pub AllHit : (Source → Source) → ℕ → (Path → Path) → Vertices → Type 0
    AllHit W b at no_vertices = Unit {0}
    AllHit W b at (and_vertex u us) = Hit W b at u × AllHit W (b + count u) at us

    abbrev pub told : (Path → Path) → List Node → Path → Vector
    told at cs [] = other (at []) j
    told at cs (p ∷ q) = with_node (find_node p cs) (other (at (p ∷ q)) j) (λ c. R c q)

    pub hit-all : (W : Source → Source) (b : ℕ) (at : Path → Path) (us : Vertices) → Keeps at → HasDistinctParts (nodes us)
        → AllHit W b at us → (more : List Operation) (q : Path) → picked more (at q) ≡ other (at q) j
        → picked (inlined_all W b at us ++ more) (at q) ≡ told at (nodes us) q
    hit-all W b at us keeps distinct hits more [] same = miss-all W b at us more (at []) (λ y q. keeps (y ∷ q) []) ∙ same
    hit-all W b at no_vertices keeps distinct hits more (p ∷ q) same = same
    hit-all W b at (and_vertex u us) keeps distinct hits more (p ∷ q) same =
        ap (λ ops. picked ops (at (p ∷ q))) (append_assoc (inlined W b at u) (inlined_all W (b + count u) at us) more)
        ∙ either (same_part (node u).part p) refl (hit-all W (b + count u) at us keeps distinct.1 hits.1 more (p ∷ q) same)
      where
        either : (t : Bool) → same_part (node u).part p ≡ t
            → picked (inlined_all W (b + count u) at us ++ more) (at (p ∷ q)) ≡ told at (nodes us) (p ∷ q)
            → picked (inlined W b at u ++ (inlined_all W (b + count u) at us ++ more)) (at (p ∷ q)) ≡ with_node (cond t (Some (node u)) (find_node p (nodes us))) (other (at (p ∷ q)) j) (λ c. R c q)
        either true e later =
            let is : (node u).part ≡ p = same_means (node u).part p e in
            subst (λ x. picked (inlined W b at u ++ (inlined_all W (b + count u) at us ++ more)) (at (x ∷ q)) ≡ R (node u) q) is
            (hits.0 (inlined_all W (b + count u) at us ++ more) q
            (miss-apart W (b + count u) at us more (node u).part q keeps distinct.0 ∙ subst (λ x. picked more (at (x ∷ q)) ≡ other (at (x ∷ q)) j) (sym is) same))
        either false e later =
            miss-vertex W b at u (inlined_all W (b + count u) at us ++ more) (at (p ∷ q)) (λ a. keeps ((node u).part ∷ a) (p ∷ q) ∙ ap (λ t. t && same_path a q) e) ∙ later

both_same : {A : Type 0} (b : Bool) (x : A) → cond b x x ≡ x
both_same true x = refl
both_same false x = refl

still : (look : Source → Vector) (gs : List Guard) (st : State) (q : Path) → st q ≡ cond (all_hold look gs) st st q
still look gs st q = sym (ap (λ (f : State). f q) (both_same (all_hold look gs) st))

cond_at : (b : Bool) (f g : State) (q : Path) → cond b f g q ≡ cond b (f q) (g q)
cond_at true f g q = refl
cond_at false f g q = refl

-- a delay's own path, and the paths below it
own_path : (at : Path → Path) (p : Part) (q : Path) → Keeps at → same_path (at (p ∷ [])) (at (p ∷ q)) ≡ same_path [] q
own_path at p q keeps = keeps (p ∷ []) (p ∷ q) ∙ ap (λ t. t && same_path [] q) (same_itself p)

-- what is kept first
abbrev first_of : Operation → Vector
first_of op = initial_value op.task

with_node_at : (o : Option Node) (none : List Vector) (f : Node → List Vector) (j : ℕ) → with_node o (vector_at none j) (λ c. vector_at (f c) j) ≡ vector_at (with_node o none f) j
with_node_at None none f j = refl
with_node_at (Some c) none f j = refl

-- the value of stage j among these, of which the first is stage i
abbrev among : ℕ → List Vector → ℕ → Vector
among i [] j = []
among i (v ∷ vs) j = if i == j then v else among (suc i) vs j

among-is : (i : ℕ) (vs : List Vector) (n : ℕ) → among i vs (i + n) ≡ vector_at vs n
among-is i [] n = refl
among-is i (v ∷ vs) zero = ap (λ b. cond b v (among (suc i) vs (i + 0))) (eq-eqb i (i + 0) (omega arith))
among-is i (v ∷ vs) (suc n) =
    ap (λ b. cond b v (among (suc i) vs (i + suc n))) (ne_eqb i (i + suc n) (λ e. omega (arith, e)))
    ∙ ap (among (suc i) vs) (omega arith) ∙ among-is (suc i) vs n

module _ (j : ℕ) where
  abbrev FirstTold : Node → Path → Vector
  FirstTold c q = vector_at (c.does.initial q) j

  first-is : (at : Path → Path) (cs : List Node) (q : Path) → told is_get first_of (stages_of no_state) j FirstTold at cs q ≡ vector_at (graph_initial cs q) j
  first-is at cs [] = refl
  first-is at cs (p ∷ q) = with_node_at (find_node p cs) [] (λ c. c.does.initial q) j

  abbrev FirstHit : (Source → Source) → ℕ → (Path → Path) → Vertices → Type 0
  FirstHit W b at us = AllHit is_get first_of (stages_of no_state) j FirstTold W b at us

  first-stages : (W : Source → Source) (b : ℕ) (path : Path) (l : Label) (i : ℕ) (vs : List Vector) (more : List Operation) → same_path path path ≡ true → first_cells more path j ≡ []
      → first_cells (stages W b path l i vs ++ more) path j ≡ among i vs j
  first-stages W b path l i [] more e same = same
  first-stages W b path l i (v ∷ vs) more e same =
      ap (λ t. cond (t && (i == j)) v (first_cells (stages W (b + 2) path l (suc i) vs ++ more) path j)) e
      ∙ ap (cond (i == j) v) (first-stages W (b + 2) path l (suc i) vs more e same)

  first-by : (W : Source → Source) (b : ℕ) (at : Path → Path) (l : Label) (us : Vertices) → Keeps at → (k : Kind) → IsKindInlinable k l.guards (nodes us)
      → ((own : List Source) → FirstHit (wire (wirings b us) own) b (λ q. at (l.part ∷ q)) us) → (more : List Operation) (q : Path)
      → first_cells more (at (l.part ∷ q)) j ≡ []
      → first_cells (inlined_by W b at l k (λ own c below'. inlined_all (wire (wirings c us) own) c below' us) ++ more)
      (at (l.part ∷ q)) j ≡ FirstTold (node (vertex (with_kind l k) us)) q
  first-by W b at l us keeps (graph outs) h deep more q same =
      hit-all is_get first_of (stages_of no_state) j FirstTold (wire (wirings b us) (map W l.ins)) b (λ q. at (l.part ∷ q)) us (keeps-below at l.part keeps) h.1.1 (deep (map W l.ins)) more q same
      ∙ first-is (λ q. at (l.part ∷ q)) (nodes us) q
  first-by W b at l us keeps (switch values names) h deep more q same = absurd h
  first-by W b at l us keeps (repeat n feeds gives) h deep more q same = absurd h
  first-by W b at l us keeps (delay vs) h deep more [] same = first-stages W b (at (l.part ∷ [])) l 0 vs more (own_path at l.part [] keeps) same ∙ ap (among 0 vs) (sym (zero-add j)) ∙ among-is 0 vs j
  first-by W b at l us keeps (delay vs) h deep more (z ∷ q) same =
      miss-stages is_get first_of (stages_of no_state) j W b (at (l.part ∷ [])) l 0 vs more (at (l.part ∷ (z ∷ q))) (own_path at l.part (z ∷ q) keeps) ∙ same
  first-by W b at l us keeps (sensor n) h deep more q same = same
  first-by W b at l us keeps (actuator n) h deep more q same = same
  first-by W b at l us keeps (constant v) h deep more q same = same
  first-by W b at l us keeps (function es) h deep more q same = same
  first-by W b at l us keeps explode h deep more q same = same
  first-by W b at l us keeps implode h deep more q same = same
  first-by W b at l us keeps (merge values) h deep more q same = same

  mutual
    first-vertex : (W : Source → Source) (b : ℕ) (at : Path → Path) (u : Vertex) → Keeps at → CanInline u → Hit is_get first_of (stages_of no_state) j FirstTold W b at u
    first-vertex W b at (vertex l us) keeps h more q same =
        first-by W b at l us keeps l.kind h.0 (λ own. first-all (wire (wirings b us) own) b (λ q. at (l.part ∷ q)) us (keeps-below at l.part keeps) h.1) more q same

    first-all : (W : Source → Source) (b : ℕ) (at : Path → Path) (us : Vertices) → Keeps at → AllCanInline us → FirstHit W b at us
    first-all W b at no_vertices keeps h = tt
    first-all W b at (and_vertex u us) keeps h = (first-vertex W b at u keeps h.0, first-all W (b + count u) at us keeps h.1)

append_none : {A : Type 0} (xs : List A) → xs ++ [] ≡ xs
append_none [] = refl
append_none (x ∷ xs) = ap (λ ys. x ∷ ys) (append_none xs)

pub first-level : (own : List Source) (b : ℕ) (at : Path → Path) (us : Vertices) → Keeps at → AllCanInline us → HasDistinctParts (nodes us)
    → (q : Path) (j : ℕ) → first_cells (inlined_level own b at us) (at q) j ≡ vector_at (graph_initial (nodes us) q) j
first-level own b at us keeps h distinct q j =
    ap (λ ops. first_cells ops (at q) j) (sym (append_none (inlined_level own b at us)))
    ∙ hit-all is_get first_of (stages_of no_state) j (FirstTold j) (wire (wirings b us) own) b at us keeps distinct (first-all j (wire (wirings b us) own) b at us keeps h) [] q refl
    ∙ first-is j at (nodes us) q

-- the list of a delay after an active reaction
abbrev after : List Vector → Vector → List Vector
after K x = drop 1 K ++ x ∷ []

after-inner : (K : List Vector) (x : Vector) (i : ℕ) → suc i < length K → vector_at (after K x) i ≡ vector_at K (suc i)
after-inner [] x i lt = absurd (omega arith)
after-inner (k ∷ K) x i lt = at_left K i (omega arith)
  where
    at_left : (ys : List Vector) (n : ℕ) → n < length ys → vector_at (ys ++ x ∷ []) n ≡ vector_at ys n
    at_left [] n h = absurd (omega arith)
    at_left (y ∷ ys) zero h = refl
    at_left (y ∷ ys) (suc n) h = at_left ys n (omega arith)

after-last : (K : List Vector) (x : Vector) (i : ℕ) → suc i ≡ length K → vector_at (after K x) i ≡ x
after-last [] x i e = absurd (omega (arith, e))
after-last (k ∷ K) x i e = at_end K i (omega (arith, e))
  where
    at_end : (ys : List Vector) (n : ℕ) → n ≡ length ys → vector_at (ys ++ x ∷ []) n ≡ x
    at_end [] zero h = refl
    at_end [] (suc n) h = absurd (omega arith)
    at_end (y ∷ ys) zero h = absurd (omega arith)
    at_end (y ∷ ys) (suc n) h = at_end ys n (omega arith)

past : (ys : List Vector) (n : ℕ) → length ys ≤ n → vector_at ys n ≡ []
past [] n h = refl
past (y ∷ ys) zero h = absurd (omega arith)
past (y ∷ ys) (suc n) h = past ys n (omega arith)

after-past : (K : List Vector) (x : Vector) (i : ℕ) → 1 ≤ length K → length K ≤ i → vector_at K i ≡ vector_at (after K x) i
after-past [] x i some h = absurd (omega arith)
after-past (k ∷ K) x i some h = past (k ∷ K) i h ∙ sym (past (K ++ x ∷ []) i (omega (arith, length-append K (x ∷ []), h)))

-- what is kept next
module _ (row : Values) (kept : State) (V : Source → Vector) (nothing : (k : ℕ) → V (Own k) ≡ []) (j : ℕ) where
  abbrev cells : Stages
  cells = stages_of kept

  abbrev NextTold : (Source → Vector) → (Path → Path) → Node → Path → Vector
  NextTold look at c q = vector_at (node_next row (λ q. kept (at (c.part ∷ q))) look c q) j

  abbrev NextHit : (Source → Source) → ℕ → (Path → Path) → Vertices → Type 0
  NextHit W b at us = AllHit is_set (set_value V cells) cells j (NextTold (λ s. V (W s)) at) W b at us

  next-is : (look : Source → Vector) (at : Path → Path) (cs : List Node) (ins : Values) → ((s : Source) → level_value cs row (λ q. kept (at q)) ins s ≡ look s) → (q : Path)
      → told is_set (set_value V cells) cells j (NextTold look at) at cs q ≡ vector_at (graph_next cs row (λ q. kept (at q)) ins q) j
  next-is look at cs ins same [] = refl
  next-is look at cs ins same (p ∷ q) =
      with_node_at (find_node p cs) (kept (at (p ∷ q))) (λ c. node_next row (λ q. kept (at (c.part ∷ q))) look c q) j
      ∙ ap (λ (f : Source → Vector). vector_at (with_node (find_node p cs) (kept (at (p ∷ q))) (λ c. node_next row (λ q. kept (at (c.part ∷ q))) f c q)) j) (fun_ext (λ s. sym (same s)))

  -- the stages of a delay with this list, from stage i on
  module _ (W : Source → Source) (path : Path) (l : Label) where
    abbrev K : List Vector
    K = kept path

    abbrev x : Vector
    x = vector_at (map (λ s. V (W s)) l.ins) 0

    abbrev holds : Bool
    holds = all_hold (λ s. V (W s)) l.guards

    abbrev left : ℕ → ℕ → List Vector → Vector
    left b i [] = vector_at K j
    left b i (v ∷ vs) = if i == j then (if holds then vector_at (map V (stage_input b (map W l.ins) vs)) 0 else vector_at K i) else left (b + 2) (suc i) vs

    set-stages : (b i : ℕ) (vs : List Vector) (more : List Operation) → same_path path path ≡ true → next_cells V cells more path j ≡ vector_at K j
        → next_cells V cells (stages W b path l i vs ++ more) path j ≡ left b i vs
    set-stages b i [] more e same = same
    set-stages b i (v ∷ vs) more e same =
        ap (λ t. cond (t && (i == j)) (set_value V cells (operation_of W path i l (stage_input b (map W l.ins) vs) [] sets)) (next_cells V cells (stages W (b + 2) path l (suc i) vs ++ more) path j)) e
        ∙ ap₂ (λ h r. cond (i == j) (cond h (vector_at (map V (stage_input b (map W l.ins) vs)) 0) (vector_at K i)) r)
        (hold-wired row kept V nothing W l.guards) (set-stages (b + 2) (suc i) vs more e same)

    -- where a guard does not hold all stays
    left-idle : (b i : ℕ) (vs : List Vector) → holds ≡ false → left b i vs ≡ vector_at K j
    left-idle b i [] off = refl
    left-idle b i (v ∷ vs) off =
        ap₂ (λ h r. cond (i == j) (cond h (vector_at (map V (stage_input b (map W l.ins) vs)) 0) (vector_at K i)) r) off (left-idle (b + 2) (suc i) vs off) ∙ by_place (i == j) refl
      where
        by_place : (t : Bool) → (i == j) ≡ t → cond t (vector_at K i) (vector_at K j) ≡ vector_at K j
        by_place true e = ap (vector_at K) (eqb-true i j e)
        by_place false e = refl

    -- what stage i takes
    input-is : (b i : ℕ) (vs : List Vector) → Meets row kept V nothing (b + 2) (stages W (b + 2) path l (suc i) vs) → holds ≡ true → suc i + length vs ≡ length K
        → vector_at (map V (stage_input b (map W l.ins) vs)) 0 ≡ vector_at (after K x) i
    input-is b i [] m on long = ap (λ ins. vector_at ins 0) (map_map V W l.ins) ∙ sym (after-last K x i (omega (arith, long)))
    input-is b i (v ∷ vs) m on long =
        m.0 0 ∙ ap (λ h. vector_at (cond h (vector_at K (suc i) ∷ []) (map zeros l.outs)) 0) (hold-wired row kept V nothing W l.guards ∙ on) ∙ sym (after-inner K x i (omega (arith, long)))

    left-active : (b i n : ℕ) (vs : List Vector) → Meets row kept V nothing b (stages W b path l i vs) → holds ≡ true → 1 ≤ length K
        → i + length vs ≡ length K → i + n ≡ j → left b i vs ≡ vector_at (after K x) j
    left-active b i n [] m on some long at_j = after-past K x j some (omega (arith, long, at_j))
    left-active b i zero (v ∷ vs) m on some long at_j =
        let two : suc (suc b) ≡ b + 2 = omega arith in
        let rest = subst (λ c. Meets row kept V nothing c (stages W (b + 2) path l (suc i) vs)) two m.1.1 in
        let here : i ≡ j = omega (arith, at_j) in
        ap (λ t. cond t (cond holds (vector_at (map V (stage_input b (map W l.ins) vs)) 0) (vector_at K i)) (left (b + 2) (suc i) vs)) (eq-eqb i j here)
        ∙ ap (λ h. cond h (vector_at (map V (stage_input b (map W l.ins) vs)) 0) (vector_at K i)) on
        ∙ input-is b i vs rest on (omega (arith, long)) ∙ ap (vector_at (after K x)) here
    left-active b i (suc n) (v ∷ vs) m on some long at_j =
        let two : suc (suc b) ≡ b + 2 = omega arith in
        let rest = subst (λ c. Meets row kept V nothing c (stages W (b + 2) path l (suc i) vs)) two m.1.1 in
        ap (λ t. cond t (cond holds (vector_at (map V (stage_input b (map W l.ins) vs)) 0) (vector_at K i)) (left (b + 2) (suc i) vs)) (ne_eqb i j (λ e. omega (arith, e, at_j)))
        ∙ left-active (b + 2) (suc i) n vs rest on some (omega (arith, long)) (omega (arith, at_j))

    left-is : (b : ℕ) (vs : List Vector) → Meets row kept V nothing b (stages W b path l 0 vs) → 1 ≤ length vs → length K ≡ length vs
        → (t : Bool) → holds ≡ t → left b 0 vs ≡ cond t (vector_at (after K x) j) (vector_at K j)
    left-is b vs m some long true on = left-active b 0 j vs m on (omega (arith, some, long)) (omega (arith, long)) (zero-add j)
    left-is b vs m some long false off = left-idle b 0 vs off

  next-by : (W : Source → Source) (b : ℕ) (at : Path → Path) (l : Label) (us : Vertices) → Keeps at → (k : Kind)
      → IsKindInlinable k l.guards (nodes us) → IsKindLong k (λ q. kept (at (l.part ∷ q))) (AllLong us (λ q. kept (at (l.part ∷ q))))
      → Meets row kept V nothing b (inlined_by W b at l k (λ own c below'. inlined_all (wire (wirings c us) own) c below' us))
      → Reads row kept V nothing us
      → ((own : List Source) → AllLong us (λ q. kept (at (l.part ∷ q)))
      → Meets row kept V nothing b (inlined_level own b (λ q. at (l.part ∷ q)) us)
      → NextHit (wire (wirings b us) own) b (λ q. at (l.part ∷ q)) us) → (more : List Operation) (q : Path)
      → next_cells V cells more (at (l.part ∷ q)) j ≡ cells (at (l.part ∷ q)) j
      → next_cells V cells (inlined_by W b at l k (λ own c below'. inlined_all (wire (wirings c us) own) c below' us) ++ more)
      (at (l.part ∷ q)) j ≡ NextTold (λ s. V (W s)) at (node (vertex (with_kind l k) us)) q
  next-by W b at l us keeps (graph outs) h long m reads deep more q same =
      let at' = λ (q : Path). at (l.part ∷ q) in
      let own = map W l.ins in
      let look = λ (s : Source). V (W s) in
      hit-all is_set (set_value V cells) cells j (NextTold (λ s. V (wire (wirings b us) own s)) at') (wire (wirings b us) own) b at' us
      (keeps-below at l.part keeps) h.1.1 (deep own long m) more q same
      ∙ next-is (λ s. V (wire (wirings b us) own s)) at' (nodes us) (map look l.ins) (reads own b at' (map look l.ins) h.1.0 (own_wired row kept V nothing W l.ins) m) q
      ∙ sym (ap (λ gs. vector_at (cond (all_hold look gs) (graph_next (nodes us) row (λ q. kept (at' q)) (map look l.ins)) (λ q. kept (at' q)) q) j) h.0)
  next-by W b at l us keeps (switch values names) h long m reads deep more q same = absurd h
  next-by W b at l us keeps (repeat n feeds gives) h long m reads deep more q same = absurd h
  next-by W b at l us keeps (delay vs) h long m reads deep more [] same =
      let look = λ (s : Source). V (W s) in
      let st = λ (q : Path). kept (at (l.part ∷ q)) in
      set-stages W (at (l.part ∷ [])) l b 0 vs more (own_path at l.part [] keeps) same
      ∙ left-is W (at (l.part ∷ [])) l b vs m h long (all_hold look l.guards) refl
      ∙ either (all_hold look l.guards) st (delay_next st (map look l.ins))
    where
      either : (t : Bool) (st next : State) → cond t (vector_at (next []) j) (vector_at (st []) j) ≡ vector_at (cond t next st []) j
      either true st next = refl
      either false st next = refl
  next-by W b at l us keeps (delay vs) h long m reads deep more (z ∷ q) same =
      let look = λ (s : Source). V (W s) in
      let st = λ (q : Path). kept (at (l.part ∷ q)) in
      miss-stages is_set (set_value V cells) cells j W b (at (l.part ∷ [])) l 0 vs more (at (l.part ∷ (z ∷ q))) (own_path at l.part (z ∷ q) keeps) ∙ same
      ∙ ap (λ ks. vector_at ks j) (sym (cond_at (all_hold look l.guards) (delay_next st (map look l.ins)) st (z ∷ q) ∙ both_same (all_hold look l.guards) (st (z ∷ q))))
  next-by W b at l us keeps (sensor n) h long m reads deep more q same = same ∙ ap (λ ks. vector_at ks j) (still (λ s. V (W s)) l.guards (λ q. kept (at (l.part ∷ q))) q)
  next-by W b at l us keeps (actuator n) h long m reads deep more q same = same ∙ ap (λ ks. vector_at ks j) (still (λ s. V (W s)) l.guards (λ q. kept (at (l.part ∷ q))) q)
  next-by W b at l us keeps (constant v) h long m reads deep more q same = same ∙ ap (λ ks. vector_at ks j) (still (λ s. V (W s)) l.guards (λ q. kept (at (l.part ∷ q))) q)
  next-by W b at l us keeps (function es) h long m reads deep more q same = same ∙ ap (λ ks. vector_at ks j) (still (λ s. V (W s)) l.guards (λ q. kept (at (l.part ∷ q))) q)
  next-by W b at l us keeps explode h long m reads deep more q same = same ∙ ap (λ ks. vector_at ks j) (still (λ s. V (W s)) l.guards (λ q. kept (at (l.part ∷ q))) q)
  next-by W b at l us keeps implode h long m reads deep more q same = same ∙ ap (λ ks. vector_at ks j) (still (λ s. V (W s)) l.guards (λ q. kept (at (l.part ∷ q))) q)
  next-by W b at l us keeps (merge values) h long m reads deep more q same = same ∙ ap (λ ks. vector_at ks j) (still (λ s. V (W s)) l.guards (λ q. kept (at (l.part ∷ q))) q)

  mutual
    next-vertex : (W : Source → Source) (b : ℕ) (at : Path → Path) (u : Vertex) → Keeps at → CanInline u
        → IsLong u (λ q. kept (at ((node u).part ∷ q))) → Meets row kept V nothing b (inlined W b at u)
        → Hit is_set (set_value V cells) cells j (NextTold (λ s. V (W s)) at) W b at u
    next-vertex W b at (vertex l us) keeps h long m more q same =
        next-by W b at l us keeps l.kind h.0 long m (reads-all row kept V nothing us h.1)
        (λ own long2 m2. next-all (wire (wirings b us) own) b (λ q. at (l.part ∷ q)) us (keeps-below at l.part keeps) h.1 long2 m2) more q same

    next-all : (W : Source → Source) (b : ℕ) (at : Path → Path) (us : Vertices) → Keeps at → AllCanInline us
        → AllLong us (λ q. kept (at q)) → Meets row kept V nothing b (inlined_all W b at us) → NextHit W b at us
    next-all W b at no_vertices keeps h long m = tt
    next-all W b at (and_vertex u us) keeps h long m = (
      next-vertex W b at u keeps h.0 long.0 (meets-left row kept V nothing b (inlined W b at u) _ m),
      next-all W (b + count u) at us keeps h.1 long.1
          (subst (λ n. Meets row kept V nothing (b + n) (inlined_all W (b + count u) at us)) (long-inlined W b at u h.0)
          (meets-right row kept V nothing b (inlined W b at u) _ m)),
    )

  pub next-level : (own : List Source) (b : ℕ) (at : Path → Path) (us : Vertices) (ins : Values) → Keeps at → AllCanInline us
      → AllLong us (λ q. kept (at q)) → IsAcyclic (nodes us) → HasDistinctParts (nodes us)
      → ((k : ℕ) → V (slice_index_or own k nowhere) ≡ vector_at ins k) → Meets row kept V nothing b (inlined_level own b at us) → (q : Path)
      → next_cells V cells (inlined_level own b at us) (at q) j ≡ vector_at (graph_next (nodes us) row (λ q. kept (at q)) ins q) j
  next-level own b at us ins keeps h long acyclic distinct fed m q =
      ap (λ ops. next_cells V cells ops (at q) j) (sym (append_none (inlined_level own b at us)))
      ∙ hit-all is_set (set_value V cells) cells j (NextTold (λ s. V (wire (wirings b us) own s)) at)
      (wire (wirings b us) own) b at us keeps distinct (next-all (wire (wirings b us) own) b at us keeps h long m) [] q refl
      ∙ next-is (λ s. V (wire (wirings b us) own s)) at (nodes us) ins (reads-all row kept V nothing us h own b at ins acyclic fed m) q
