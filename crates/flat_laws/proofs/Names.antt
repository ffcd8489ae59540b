-- The name of an operation is a path: letters, digits, `_`, `/`, `.` and `:`. That of a half of a delay reads like a path with one
-- part more.
use Rattle.std.proofs.Common.{
  ◌≡◌,
  ℕ,
  zero,
  suc,
  ◌+◌,
  ◌^◌,
  ◌<◌,
  ◌≤◌,
  ◌==◌,
  ◌||◌,
  nat_le,
  true,
  List,
  [],
  ◌∷◌,
  ◌++◌,
  length,
  map,
  decimal,
  codes,
  refl,
  sym,
  ap,
  ◌∙◌,
  subst,
  arith,
  append_assoc,
  append-nil,
  length-append,
  le-leb,
}
use Rattle.std.specs.List.{list_all}
use Rattle.std.proofs.lemmas.Bool.{false≢true, and_parts, and_from, or_left}
use Rattle.std.proofs.lemmas.List.Folds.{list_all-append}
use Rattle.syn_base.specs.Name.{is_name_byte}
use Rattle.algo_tree.specs.declared.Source.{Source}
use Rattle.algo_tree.specs.declared.Part.{Part}
use Rattle.algo_tree.specs.declared.Part.TheVariants.{Named, Numbered, Port}
use Rattle.algo_tree.specs.Level.{Path}
use Rattle.algo_tree.specs.Tree.{Label, Kind, sensor, actuator, constant, delay, function, explode, implode, merge, graph, switch, repeat, Vertex, vertex, Vertices, no_vertices, and_vertex}
use Rattle.algo_tree.specs.Counted.{operations as count, operations_by, operations_in}
use Rattle.algo_tree.specs.Valid.{IsTree}
use Rattle.flat_graph.specs.Valid.{is_path_byte, is_path}
use Rattle.flat_laws.specs.Flat.{Operation, Task, runs, gets, sets}
use Rattle.flat_laws.specs.Inlined.{wire, wirings, stages, inlined_by, inlined, inlined_all, operations}
use Rattle.flat_laws.proofs.Pairs.{AtAll, all-append, paths-by}
use Rattle.algo_tree.specs.Texts.{part_text, parts_text, path_text}
use Rattle.algo_tree.specs.Named.{is_word, IsPathNamed, IsNamed, AllNamed, HasNames}
use Rattle.algo_tree.specs.Bounded.{IsPathBounded, IsBounded, AllBounded, HasBounds}
use Rattle.algo_tree.proofs.Texts.{AreNameBytes, word_bytes, number_bytes}
use Rattle.flat_laws.specs.Names.{stage_text, half_text, name_of}
use Rattle.syn_base.specs.Vectors.{Vector}

abbrev pub stage_part : ℕ → Path
stage_part zero = []
stage_part (suc i) = Numbered (suc i) ∷ []

-- the path that the name of an operation reads like
abbrev pub half : Task → ℕ → Path
half (runs k) i = []
half (gets v) i = Port (codes "get") ∷ stage_part i
half sets i = Port (codes "set") ∷ stage_part i

abbrev pub full : Operation → Path
full op = op.path ++ half op.task op.stage

half-same : (t : Task) (i : ℕ) → half_text t i ≡ parts_text (half t i)
half-same (runs k) i = refl
half-same (gets v) zero = refl
half-same (gets v) (suc i) = ap (λ s. codes ":get." ++ s) (sym (append-nil (decimal (suc i))))
half-same sets zero = refl
half-same sets (suc i) = ap (λ s. codes ":set." ++ s) (sym (append-nil (decimal (suc i))))

parts-append : (q r : Path) → parts_text (q ++ r) ≡ parts_text q ++ parts_text r
parts-append [] r = refl
parts-append (p ∷ q) r = ap (λ s. part_text p ++ s) (parts-append q r) ∙ sym (append_assoc (part_text p) (parts_text q) (parts_text r))

parts-half : (q : Path) (t : Task) (i : ℕ) → parts_text q ++ half_text t i ≡ parts_text (q ++ half t i)
parts-half q t i = ap (λ s. parts_text q ++ s) (half-same t i) ∙ sym (parts-append q (half t i))

pub full-text : (q : Path) (t : Task) (i : ℕ) → path_text q ++ half_text t i ≡ path_text (q ++ half t i)
full-text [] (runs k) i = refl
full-text [] (gets v) i = half-same (gets v) i
full-text [] sets i = half-same sets i
full-text (Named x ∷ q) t i = append_assoc x (parts_text q) (half_text t i) ∙ ap (λ s. x ++ s) (parts-half q t i)
full-text (Numbered n ∷ q) t i = parts-half (Numbered n ∷ q) t i
full-text (Port x ∷ q) t i = parts-half (Port x ∷ q) t i

-- names and bounded numbers, one part at least
abbrev HasParts : Path → Type 0
HasParts [] = ⊥
HasParts (p ∷ q) = Unit {0}

pub record IsTold (q : Path) : Type 0 where
  pub named : IsPathNamed q
  pub bounded : IsPathBounded q
  pub some : HasParts q

named-append : (q r : Path) → IsPathNamed q → IsPathNamed r → IsPathNamed (q ++ r)
named-append [] r h k = k
named-append (p ∷ q) r h k = (h.0, named-append q r h.1 k)

bounded-append : (q r : Path) → IsPathBounded q → IsPathBounded r → IsPathBounded (q ++ r)
bounded-append [] r h k = k
bounded-append (p ∷ q) r h k = (h.0, bounded-append q r h.1 k)

stage-named : (i : ℕ) → IsPathNamed (stage_part i)
stage-named zero = tt
stage-named (suc i) = (tt, tt)

stage-bounded : (i : ℕ) → i < 2 ^ 32 → IsPathBounded (stage_part i)
stage-bounded zero h = tt
stage-bounded (suc i) h = (h, tt)

half-named : (t : Task) (i : ℕ) → IsPathNamed (half t i)
half-named (runs k) i = tt
half-named (gets v) i = (refl, stage-named i)
half-named sets i = (refl, stage-named i)

half-bounded : (t : Task) (i : ℕ) → i < 2 ^ 32 → IsPathBounded (half t i)
half-bounded (runs k) i h = tt
half-bounded (gets v) i h = (tt, stage-bounded i h)
half-bounded sets i h = (tt, stage-bounded i h)

-- an operation whose path is told, of a stage whose number is small
pub record IsNamedOperation (op : Operation) : Type 0 where
  pub told : IsTold op.path
  pub small : op.stage < 2 ^ 32

pub full-named : (op : Operation) → IsNamedOperation op → IsPathNamed (full op)
full-named op h = named-append op.path (half op.task op.stage) h.told.named (half-named op.task op.stage)

pub full-bounded : (op : Operation) → IsNamedOperation op → IsPathBounded (full op)
full-bounded op h = bounded-append op.path (half op.task op.stage) h.told.bounded (half-bounded op.task op.stage h.small)

-- the texts
bytes-pass : (x : List ℕ) → AreNameBytes x → list_all is_path_byte x ≡ true
bytes-pass [] h = refl
bytes-pass (b ∷ x) h =
    let both = and_parts (is_name_byte b) (list_all is_name_byte x) h in
    and_from (is_path_byte b) (list_all is_path_byte x)
    (or_left (is_name_byte b || (b == 46) || (b == 47)) (b == 58)
    (or_left (is_name_byte b || (b == 46)) (b == 47) (or_left (is_name_byte b) (b == 46) both.0))) (bytes-pass x both.1)

joined-pass : (x y : List ℕ) → list_all is_path_byte x ≡ true → list_all is_path_byte y ≡ true → list_all is_path_byte (x ++ y) ≡ true
joined-pass x y h k = list_all-append is_path_byte x y ∙ and_from (list_all is_path_byte x) (list_all is_path_byte y) h k

parts-pass : (q : Path) → IsPathNamed q → IsPathBounded q → list_all is_path_byte (parts_text q) ≡ true
parts-pass [] h k = refl
parts-pass (Named x ∷ q) h k = joined-pass x (parts_text q) (bytes-pass x (word_bytes x h.0)) (parts-pass q h.1 k.1)
parts-pass (Numbered n ∷ q) h k = joined-pass (decimal n) (parts_text q) (bytes-pass (decimal n) (number_bytes n k.0)) (parts-pass q h.1 k.1)
parts-pass (Port x ∷ q) h k = joined-pass x (parts_text q) (bytes-pass x (word_bytes x h.0)) (parts-pass q h.1 k.1)

path-pass : (q : Path) → IsPathNamed q → IsPathBounded q → list_all is_path_byte (path_text q) ≡ true
path-pass [] h k = refl
path-pass (Named x ∷ q) h k = joined-pass x (parts_text q) (bytes-pass x (word_bytes x h.0)) (parts-pass q h.1 k.1)
path-pass (Numbered n ∷ q) h k = parts-pass (Numbered n ∷ q) h k
path-pass (Port x ∷ q) h k = parts-pass (Port x ∷ q) h k

name-long : (x s : List ℕ) → is_word x ≡ true → 1 ≤ length (x ++ s)
name-long [] s h = absurd (false≢true h)
name-long (b ∷ x) s h = omega arith

path-long : (q : Path) → IsPathNamed q → HasParts q → 1 ≤ length (path_text q)
path-long [] h some = absurd some
path-long (Named x ∷ q) h some = name-long x (parts_text q) h.0
path-long (Numbered n ∷ q) h some = omega arith
path-long (Port x ∷ q) h some = omega arith

stage-pass : (i : ℕ) → i < 2 ^ 32 → list_all is_path_byte (stage_text i) ≡ true
stage-pass zero h = refl
stage-pass (suc i) h = bytes-pass (decimal (suc i)) (number_bytes (suc i) h)

half-pass : (t : Task) (i : ℕ) → i < 2 ^ 32 → list_all is_path_byte (half_text t i) ≡ true
half-pass (runs k) i h = refl
half-pass (gets v) i h = stage-pass i h
half-pass sets i h = stage-pass i h

-- it is a path of one byte or more
pub name-pass : (op : Operation) → IsNamedOperation op → is_path (name_of op) ≡ true
name-pass op h =
    let q = op.path in
    let t = half_text op.task op.stage in
    let long : 1 ≤ length (path_text q ++ t) = let e = length-append (path_text q) t in let l = path-long q h.told.named h.told.some in omega (arith, e, l) in
    and_from (nat_le 1 (length (path_text q ++ t))) (list_all is_path_byte (path_text q ++ t)) (le-leb 1 (length (path_text q ++ t)) long)
    (joined-pass (path_text q) t (path-pass q h.told.named h.told.bounded) (half-pass op.task op.stage h.small))

-- all paths of a flat list are of this form
mutual
  told-vertex : (W : Source → Source) (b : ℕ) (at : Path → Path) (u : Vertex) → IsNamed u → IsBounded u
      → ((p : Part) (q : Path) → IsPathNamed (p ∷ q) → IsPathBounded (p ∷ q) → IsTold (at (p ∷ q))) → AtAll IsTold (inlined W b at u)
  told-vertex W b at (vertex l us) n d h =
      paths-by IsTold W b at l l.kind _
      (λ own. told-all (wire (wirings b us) own) b (λ q. at (l.part ∷ q)) us n.1 d.1 (λ p q x y. h l.part (p ∷ q) (n.0.part, x) (d.0.part, y)))
      (h l.part [] (n.0.part, tt) (d.0.part, tt))

  told-all : (W : Source → Source) (b : ℕ) (at : Path → Path) (us : Vertices) → AllNamed us → AllBounded us
      → ((p : Part) (q : Path) → IsPathNamed (p ∷ q) → IsPathBounded (p ∷ q) → IsTold (at (p ∷ q))) → AtAll IsTold (inlined_all W b at us)
  told-all W b at no_vertices n d h = tt
  told-all W b at (and_vertex u us) n d h = all-append IsTold (inlined W b at u) _ (told-vertex W b at u n.0 d.0 h) (told-all W (b + count u) at us n.1 d.1 h)

told-main : (main : Vertex) → HasNames main → HasBounds main → AtAll IsTold (operations main)
told-main (vertex l us) n d = told-all (wire (wirings 0 us) []) 0 (λ q. q) us n d (λ p q x y. record { named = x; bounded = y; some = tt })

-- the stages of a delay are fewer than the operations
abbrev SmallStages : ℕ → List Operation → Type 0
SmallStages n [] = Unit {0}
SmallStages n (op ∷ ops) = (op.stage < n) × SmallStages n ops

small-append : (n : ℕ) (xs ys : List Operation) → SmallStages n xs → SmallStages n ys → SmallStages n (xs ++ ys)
small-append n [] ys h k = k
small-append n (x ∷ xs) ys h k = (h.0, small-append n xs ys h.1 k)

module _ (n : ℕ) (some : 0 < n) where
  small-stages : (W : Source → Source) (b : ℕ) (path : Path) (l : Label) (i : ℕ) (vs : List Vector) → i + length vs ≤ n → SmallStages n (stages W b path l i vs)
  small-stages W b path l i [] h = tt
  small-stages W b path l i (v ∷ vs) h = let lt : i < n = omega (arith, h) in (lt, (lt, small-stages W (b + 2) path l (suc i) vs (omega (arith, h))))

  small-by : (W : Source → Source) (b : ℕ) (at : Path → Path) (l : Label) (k : Kind)
      (inner : List Source → ℕ → (Path → Path) → List Operation) (m : ℕ) → ((own : List Source) → m ≤ n → SmallStages n (inner own b (λ q. at (l.part ∷ q))))
      → operations_by k m ≤ n → SmallStages n (inlined_by W b at l k inner)
  small-by W b at l (graph outs) inner m deep h = deep (map W l.ins) h
  small-by W b at l (delay vs) inner m deep h = small-stages W b (at (l.part ∷ [])) l 0 vs (omega (arith, h))
  small-by W b at l (switch values names) inner m deep h = (some, tt)
  small-by W b at l (repeat c feeds gives) inner m deep h = (some, tt)
  small-by W b at l (sensor c) inner m deep h = (some, tt)
  small-by W b at l (actuator c) inner m deep h = (some, tt)
  small-by W b at l (constant v) inner m deep h = (some, tt)
  small-by W b at l (function es) inner m deep h = (some, tt)
  small-by W b at l explode inner m deep h = (some, tt)
  small-by W b at l implode inner m deep h = (some, tt)
  small-by W b at l (merge values) inner m deep h = (some, tt)

  mutual
    small-vertex : (W : Source → Source) (b : ℕ) (at : Path → Path) (u : Vertex) → count u ≤ n → SmallStages n (inlined W b at u)
    small-vertex W b at (vertex l us) h = small-by W b at l l.kind _ (operations_in us) (λ own k. small-all (wire (wirings b us) own) b (λ q. at (l.part ∷ q)) us k) h

    small-all : (W : Source → Source) (b : ℕ) (at : Path → Path) (us : Vertices) → operations_in us ≤ n → SmallStages n (inlined_all W b at us)
    small-all W b at no_vertices h = tt
    small-all W b at (and_vertex u us) h =
        small-append n (inlined W b at u) _ (small-vertex W b at u (omega (arith, h))) (small-all W (b + count u) at us (omega (arith, h)))

abbrev pub AreNamed : List Operation → Type 0
AreNamed [] = Unit {0}
AreNamed (op ∷ ops) = IsNamedOperation op × AreNamed ops

both-named : (ops : List Operation) → AtAll IsTold ops → SmallStages 2048 ops → AreNamed ops
both-named [] h k = tt
both-named (op ∷ ops) h k = (record { told = h.0; small = omega (arith, k.0) }, both-named ops h.1 k.1)

pub named-main : (main : Vertex) → IsTree main → HasNames main → HasBounds main → AreNamed (operations main)
named-main (vertex l us) h n d =
    let few : operations_in us ≤ 2048 = subst (λ k. operations_by k (operations_in us) ≤ 2048) h.portless.kind h.few in
    both-named (operations (vertex l us)) (told-main (vertex l us) n d) (small-all 2048 (omega arith) (wire (wirings 0 us) []) 0 (λ q. q) us few)
