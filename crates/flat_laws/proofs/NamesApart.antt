-- No two operations of a flat list have one name: the vertices of a level have distinct parts, nothing stands below a delay, and
-- the halves of its stages differ after its path.
use Rattle.std.proofs.Common.{◌≡◌, ℕ, zero, suc, ◌+◌, ◌<◌, ◌&&◌, not, true, false, List, [], ◌∷◌, ◌++◌, map, bytes_eq, refl, sym, ap, ap₂, ◌∙◌, subst, arith, ne_eqb}
use Rattle.std.specs.List.{list_any}
use Rattle.std.proofs.lemmas.Bool.{false≢true, and_from, or_from, not_from_false, false_from_ne_true}
use Rattle.std.proofs.lemmas.Slice.Eq.{bytes_eq-Decides}
use Rattle.algo_tree.specs.declared.Source.{Source}
use Rattle.algo_tree.specs.declared.Part.{Part}
use Rattle.algo_tree.specs.Level.{Path, Node}
use Rattle.algo_tree.specs.Parts.{IsApart, HasDistinctParts}
use Rattle.algo_tree.specs.Tree as tree
use Rattle.algo_tree.specs.Tree.{Label, Kind, sensor, actuator, constant, delay, function, explode, implode, merge, graph, switch, repeat, vertex, Vertices, no_vertices, and_vertex}
use Rattle.algo_tree.specs.Counted.{operations as count}
use Rattle.algo_tree.specs.Meaning.{node, nodes}
use Rattle.algo_tree.specs.Valid.{IsTree}
use Rattle.algo_tree.proofs.SameParts.{same_itself}
use Rattle.flat_graph.specs.Expr.{Expr}
use Rattle.flat_graph.specs.declared.vertex.Vertex.{Vertex}
use Rattle.flat_graph.specs.Valid.{are_named_apart}
use Rattle.flat_laws.specs.Flat.{Operation, Task, runs, gets, sets, same_path}
use Rattle.flat_laws.specs.Inlined.{wire, wirings, stages, inlined_by, inlined, inlined_all, operations}
use Rattle.flat_laws.specs.Plain.{IsPlain}
use Rattle.flat_laws.proofs.Inlinable.{IsKindInlinable, CanInline, AllCanInline, can_inline}
use Rattle.flat_laws.proofs.Cells.{Keeps, keeps-below}
use Rattle.flat_laws.proofs.Numbered.{path_itself}
use Rattle.flat_laws.proofs.Pairs.{AtAll, all-append, paths-vertex}
use Rattle.algo_tree.specs.Texts.{path_text}
use Rattle.algo_tree.specs.Named.{IsPathNamed}
use Rattle.algo_tree.specs.Bounded.{IsPathBounded}
use Rattle.algo_tree.proofs.Texts.{path_told}
use Rattle.flat_laws.specs.Names.{name_of}
use Rattle.flat_laws.specs.Stands.{AllStand}
use Rattle.flat_laws.proofs.Names.{stage_part, half, full, full-text, IsNamedOperation, AreNamed, full-named, full-bounded}
use Rattle.syn_base.specs.Vectors.{Vector}

-- no operation has a name that reads like this path
abbrev NoFull : Path → List Operation → Type 0
NoFull x [] = Unit {0}
NoFull x (op ∷ ops) = (same_path x (full op) ≡ false) × NoFull x ops

abbrev pub AllApart : List Operation → Type 0
AllApart [] = Unit {0}
AllApart (op ∷ ops) = NoFull (full op) ops × AllApart ops

no_full-append : (x : Path) (xs ys : List Operation) → NoFull x xs → NoFull x ys → NoFull x (xs ++ ys)
no_full-append x [] ys h k = k
no_full-append x (y ∷ xs) ys h k = (h.0, no_full-append x xs ys h.1 k)

no_full-from : (x : Path) (ops : List Operation) → AtAll (λ y. (r : Path) → same_path x (y ++ r) ≡ false) ops → NoFull x ops
no_full-from x [] h = tt
no_full-from x (op ∷ ops) h = (h.0 (half op.task op.stage), no_full-from x ops h.1)

apart-append : (xs ys : List Operation) → AllApart xs → AllApart ys → AtAll (λ x. (r : Path) → NoFull (x ++ r) ys) xs → AllApart (xs ++ ys)
apart-append [] ys h k a = k
apart-append (x ∷ xs) ys h k a = (no_full-append (full x) xs ys h.0 (a.0 (half x.task x.stage)), apart-append xs ys h.1 k a.1)

-- what makes a path below a level one of the whole
record IsPlace (at : Path → Path) : Type 0 where
  keeps : Keeps at
  appends : (q r : Path) → at q ++ r ≡ at (q ++ r)

place-below : (at : Path → Path) (p : Part) → IsPlace at → IsPlace (λ q. at (p ∷ q))
place-below at p h = record { keeps = keeps-below at p h.keeps; appends = λ q r. h.appends (p ∷ q) r }

below-apart : (W : Source → Source) (b : ℕ) (at : Path → Path) (us : Vertices) (p : Part) (q : Path) → IsPlace at → IsApart p (nodes us)
    → AtAll (λ y. (r : Path) → same_path (at (p ∷ q)) (y ++ r) ≡ false) (inlined_all W b at us)
below-apart W b at no_vertices p q place h = tt
below-apart W b at (and_vertex u us) p q place h =
    all-append (λ y. (r : Path) → same_path (at (p ∷ q)) (y ++ r) ≡ false) (inlined W b at u) _
    (paths-vertex (λ y. (r : Path) → same_path (at (p ∷ q)) (y ++ r) ≡ false) W b at u
    (λ a r. ap (same_path (at (p ∷ q))) (place.appends ((node u).part ∷ a) r) ∙ place.keeps (p ∷ q) ((node u).part ∷ (a ++ r)) ∙ ap (λ t. t && same_path q (a ++ r)) h.0))
    (below-apart W (b + count u) at us p q place h.1)

abbrev IsHalfTask : Task → Type 0
IsHalfTask (runs k) = ⊥
IsHalfTask (gets v) = Unit {0}
IsHalfTask sets = Unit {0}

stages-differ : (i j : ℕ) → i < j → same_path (stage_part i) (stage_part j) ≡ false
stages-differ i zero lt = absurd (omega arith)
stages-differ zero (suc j) lt = refl
stages-differ (suc i) (suc j) lt = ap (λ b. b && true) (ne_eqb (suc i) (suc j) (λ e. omega (arith, e, lt)))

-- the halves of a stage and those of later ones
halves-differ : (t u : Task) (i j : ℕ) → IsHalfTask t → IsHalfTask u → i < j → same_path (half t i) (half u j) ≡ false
halves-differ (runs k) u i j h h2 lt = absurd h
halves-differ (gets v) (runs k) i j h h2 lt = absurd h2
halves-differ sets (runs k) i j h h2 lt = absurd h2
halves-differ (gets v) (gets w) i j h h2 lt = stages-differ i j lt
halves-differ (gets v) sets i j h h2 lt = refl
halves-differ sets (gets w) i j h h2 lt = refl
halves-differ sets sets i j h h2 lt = stages-differ i j lt

halves-apart : (at : Path → Path) (p : Part) (x y : Path) → IsPlace at → same_path x y ≡ false → same_path (at (p ∷ []) ++ x) (at (p ∷ []) ++ y) ≡ false
halves-apart at p x y place h =
    ap₂ same_path (place.appends (p ∷ []) x) (place.appends (p ∷ []) y)
    ∙ place.keeps (p ∷ x) (p ∷ y) ∙ ap (λ t. t && same_path x y) (same_itself p) ∙ h

module _ (W : Source → Source) (at : Path → Path) (l : Label) (place : IsPlace at) where
  later-apart : (t : Task) (i : ℕ) → IsHalfTask t → (b j : ℕ) (vs : List Vector) → i < j → NoFull (at (l.part ∷ []) ++ half t i) (stages W b (at (l.part ∷ [])) l j vs)
  later-apart t i h b j [] lt = tt
  later-apart t i h b j (v ∷ vs) lt = (
    halves-apart at l.part (half t i) (half (gets v) j) place (halves-differ t (gets v) i j h tt lt),
    (halves-apart at l.part (half t i) (half sets j) place (halves-differ t sets i j h tt lt), later-apart t i h (b + 2) (suc j) vs (omega (arith, lt))),
  )

  stages-apart : (b i : ℕ) (vs : List Vector) → AllApart (stages W b (at (l.part ∷ [])) l i vs)
  stages-apart b i [] = tt
  stages-apart b i (v ∷ vs) = (
    (halves-apart at l.part (half (gets v) i) (half sets i) place refl, later-apart (gets v) i tt (b + 2) (suc i) vs (omega arith)),
    (later-apart sets i tt (b + 2) (suc i) vs (omega arith), stages-apart (b + 2) (suc i) vs),
  )

apart-by : (W : Source → Source) (b : ℕ) (at : Path → Path) (l : Label) (k : Kind) (cs : List Node)
    (inner : List Source → ℕ → (Path → Path) → List Operation) → IsPlace at → IsKindInlinable k l.guards cs
    → ((own : List Source) → HasDistinctParts cs → AllApart (inner own b (λ q. at (l.part ∷ q)))) → AllApart (inlined_by W b at l k inner)
apart-by W b at l (graph outs) cs inner place h deep = deep (map W l.ins) h.1.1
apart-by W b at l (delay vs) cs inner place h deep = stages-apart W at l place b 0 vs
apart-by W b at l (switch values names) cs inner place h deep = (tt, tt)
apart-by W b at l (repeat n feeds gives) cs inner place h deep = (tt, tt)
apart-by W b at l (sensor n) cs inner place h deep = (tt, tt)
apart-by W b at l (actuator n) cs inner place h deep = (tt, tt)
apart-by W b at l (constant v) cs inner place h deep = (tt, tt)
apart-by W b at l (function es) cs inner place h deep = (tt, tt)
apart-by W b at l explode cs inner place h deep = (tt, tt)
apart-by W b at l implode cs inner place h deep = (tt, tt)
apart-by W b at l (merge values) cs inner place h deep = (tt, tt)

mutual
  apart-vertex : (W : Source → Source) (b : ℕ) (at : Path → Path) (u : tree.Vertex) → IsPlace at → CanInline u → AllApart (inlined W b at u)
  apart-vertex W b at (vertex l us) place h =
      apart-by W b at l l.kind (nodes us) _ place h.0 (λ own d. apart-all (wire (wirings b us) own) b (λ q. at (l.part ∷ q)) us (place-below at l.part place) d h.1)

  apart-all : (W : Source → Source) (b : ℕ) (at : Path → Path) (us : Vertices) → IsPlace at → HasDistinctParts (nodes us) → AllCanInline us → AllApart (inlined_all W b at us)
  apart-all W b at no_vertices place d h = tt
  apart-all W b at (and_vertex u us) place d h =
      apart-append (inlined W b at u) _ (apart-vertex W b at u place h.0) (apart-all W (b + count u) at us place d.1 h.1)
      (paths-vertex (λ x. (r : Path) → NoFull (x ++ r) (inlined_all W (b + count u) at us)) W b at u
      (λ q r. subst (λ x. NoFull x (inlined_all W (b + count u) at us)) (sym (place.appends ((node u).part ∷ q) r))
      (no_full-from (at ((node u).part ∷ (q ++ r))) _ (below-apart W (b + count u) at us (node u).part (q ++ r) place d.0))))

pub apart-main : (main : tree.Vertex) → IsTree main → IsPlain main → AllApart (operations main)
apart-main (vertex l us) h plain =
    let can = can_inline [] (vertex l us) h.well h.typed plain in
    apart-all (wire (wirings 0 us) []) 0 (λ q. q) us (record { keeps = λ a b. refl; appends = λ q r. refl }) (subst (λ k. IsKindInlinable k l.guards (nodes us)) h.portless.kind can.0).1.1 can.1

-- paths that differ have texts that differ
texts-differ : (p q : Path) → IsPathNamed p → IsPathNamed q → IsPathBounded p → IsPathBounded q → same_path p q ≡ false → bytes_eq (path_text p) (path_text q) ≡ false
texts-differ p q hp hq bp bq h =
    false_from_ne_true (bytes_eq (path_text p) (path_text q))
    (λ e. false≢true (sym h ∙ ap (same_path p) (sym (path_told p q hp hq bp bq ((bytes_eq-Decides (path_text p) (path_text q)).0 e))) ∙ path_itself p))

names-differ : (x y : Operation) → IsNamedOperation x → IsNamedOperation y → same_path (full x) (full y) ≡ false → bytes_eq (name_of x) (name_of y) ≡ false
names-differ x y hx hy h =
    ap₂ bytes_eq (full-text x.path x.task x.stage) (full-text y.path y.task y.stage) ∙ texts-differ (full x) (full y) (full-named x hx) (full-named y hy) (full-bounded x hx) (full-bounded y hy) h

module _ (bodies : List (List Expr)) where
  none-same : (op : Operation) (name : List ℕ) (a : ℕ) (xs : List Vertex) (ops : List Operation) → name ≡ name_of op → IsNamedOperation op
      → AllStand bodies a xs ops → AreNamed ops → NoFull (full op) ops → list_any (λ y. bytes_eq name y.name) xs ≡ false
  none-same op name a [] ops e t h told apart = refl
  none-same op name a (x ∷ xs) [] e t h told apart = absurd h
  none-same op name a (x ∷ xs) (o ∷ ops) e t h told apart =
      or_from (bytes_eq name x.name) (list_any (λ y. bytes_eq name y.name) xs) (ap₂ bytes_eq e h.0.name ∙ names-differ op o t told.0 apart.0) (none-same op name (suc a) xs ops e t h.1 told.1 apart.1)

  pub named-apart : (a : ℕ) (xs : List Vertex) (ops : List Operation) → AllStand bodies a xs ops → AreNamed ops → AllApart ops → are_named_apart xs ≡ true
  named-apart a [] ops h told apart = refl
  named-apart a (x ∷ xs) [] h told apart = absurd h
  named-apart a (x ∷ xs) (op ∷ ops) h told apart =
      and_from (not (list_any (λ y. bytes_eq x.name y.name) xs)) (are_named_apart xs)
      (not_from_false (list_any (λ y. bytes_eq x.name y.name) xs) (none-same op x.name (suc a) xs ops h.0.name told.0 h.1 told.1 apart.0)) (named-apart (suc a) xs ops h.1 told.1 apart.1)
