-- Cells by number are cells by path and stage.
use Rattle.std.proofs.Common.{◌≡◌, ℕ, zero, suc, ◌+◌, List, [], ◌∷◌, slice_index_or, Bool, true, false, cond, ◌&&◌, Some, slice_get, refl, sym, ap, ap₂, ◌∙◌, subst, arith, zero-add, eq-eqb}
use Rattle.std.proofs.lemmas.Bool.{false≢true}
use Rattle.algo_tree.specs.declared.Source.{Source}
use Rattle.algo_tree.specs.declared.Part.TheVariants.{Numbered}
use Rattle.algo_tree.specs.Level.{Path, Node, level_value}
use Rattle.algo_tree.proofs.SameParts.{same_itself}
use Rattle.flat_laws.specs.Flat.{
  Operation,
  Task,
  runs,
  gets,
  sets,
  flat_level,
  flat_value,
  Stages,
  stages_of,
  same_path,
  is_cell,
  is_set,
  is_get,
  set_value,
  initial_value,
  task_outputs,
  pick,
  next_cells,
  flat_past,
}
use Rattle.flat_laws.specs.Numbered.{Cells, numbered_node, numbered_level, numbered_value, numbered_set, numbered_past, with_operation, SameCells}
use Rattle.flat_graph.specs.Meaning.{no_state}
use Rattle.syn_base.specs.Vectors.{Vector, Values}

pub path_itself : (q : Path) → same_path q q ≡ true
path_itself [] = refl
path_itself (p ∷ q) = ap₂ (λ a b. a && b) (same_itself p) (path_itself q)

pub cell_itself : (op : Operation) → is_cell op op.path op.stage ≡ true
cell_itself op = ap₂ (λ a b. a && b) (path_itself op.path) (eq-eqb op.stage op.stage refl)

module _ (test : Task → Bool) where
  -- no later operation of this sort has the cell of this one
  abbrev pub NoLater : Operation → List Operation → Type 0
  NoLater x [] = Unit {0}
  NoLater x (op ∷ ops) = (test op.task ≡ true → is_cell x op.path op.stage ≡ false) × NoLater x ops

  abbrev pub Distinct : List Operation → Type 0
  Distinct [] = Unit {0}
  Distinct (op ∷ ops) = (test op.task ≡ true → NoLater op ops) × Distinct ops

  no_later-at : (x : Operation) (ops : List Operation) → NoLater x ops → (v : ℕ) (op : Operation) → slice_get ops v ≡ Some op → test op.task ≡ true → is_cell x op.path op.stage ≡ false
  no_later-at x [] h v op is t = cc
  no_later-at x (y ∷ ops) h zero op is t = let e : y ≡ op = cc in subst (λ o. test o.task ≡ true → is_cell x o.path o.stage ≡ false) e h.0 t
  no_later-at x (y ∷ ops) h (suc v) op is t = no_later-at x ops h.1 v op is t

  module _ (value : Operation → Vector) (other : Stages) where
    passed : (b : Bool) (y : Operation) (ops : List Operation) (x : Path) (i : ℕ) → test y.task ≡ b → (b ≡ true → is_cell y x i ≡ false)
        → pick test value other (y ∷ ops) x i ≡ pick test value other ops x i
    passed true y ops x i e h = ap₂ (λ s t. cond (s && t) (value y) (pick test value other ops x i)) e (h refl)
    passed false y ops x i e h = ap (λ s. cond (s && is_cell y x i) (value y) (pick test value other ops x i)) e

    pub pick-at : (ops : List Operation) → Distinct ops → (v : ℕ) (op : Operation) → slice_get ops v ≡ Some op → test op.task ≡ true → pick test value other ops op.path op.stage ≡ value op
    pick-at [] d v op is t = cc
    pick-at (y ∷ ops) d zero op is t =
        let e : y ≡ op = cc in
        subst (λ o. pick test value other (y ∷ ops) o.path o.stage ≡ value o) e
        (ap₂ (λ s t. cond (s && t) (value y) (pick test value other ops y.path y.stage)) (subst (λ o. test o.task ≡ true) (sym e) t) (cell_itself y))
    pick-at (y ∷ ops) d (suc v) op is t = passed (test y.task) y ops op.path op.stage refl (λ b. no_later-at y ops (d.0 b) v op is t) ∙ pick-at ops d.1 v op is t

-- a get half's set half is the next operation
abbrev pub PairHead : Operation → Task → List Operation → Type 0
PairHead op (runs k) ops = Unit {0}
PairHead op sets ops = Unit {0}
PairHead op (gets v) [] = ⊥
PairHead op (gets v) (s ∷ ops) = (s.task ≡ sets) × (s.path ≡ op.path) × (s.stage ≡ op.stage)

abbrev pub Paired : List Operation → Type 0
Paired [] = Unit {0}
Paired (op ∷ ops) = PairHead op op.task ops × Paired ops

head-pair : (op : Operation) (t : Task) (ops : List Operation) → PairHead op t ops → is_get t ≡ true → (s : Operation)
    × (slice_get ops 0 ≡ Some s) × (s.task ≡ sets) × (s.path ≡ op.path) × (s.stage ≡ op.stage)
head-pair op (runs k) ops h g = absurd (false≢true g)
head-pair op sets ops h g = absurd (false≢true g)
head-pair op (gets v) [] h g = absurd h
head-pair op (gets v) (s ∷ ops) h g = (s, refl, h.0, h.1, h.2)

pub pair-at : (ops : List Operation) → Paired ops → (v : ℕ) (op : Operation) → slice_get ops v ≡ Some op → is_get op.task ≡ true
    → (s : Operation) × (slice_get ops (suc v) ≡ Some s) × (s.task ≡ sets) × (s.path ≡ op.path) × (s.stage ≡ op.stage)
pair-at [] h v op is g = cc
pair-at (y ∷ ops) h zero op is g =
    let e : y ≡ op = cc in
    subst (λ o. (s : Operation) × (slice_get ops 0 ≡ Some s) × (s.task ≡ sets) × (s.path ≡ o.path) × (s.stage ≡ o.stage)) e (head-pair y y.task ops h.0 (subst (λ o. is_get o.task ≡ true) (sym e) g))
pair-at (y ∷ ops) h (suc v) op is g = pair-at ops h.1 v op is g

module _ (ops : List Operation) (paired : Paired ops) (one_set : Distinct is_set ops) (one_get : Distinct is_get ops) where
  abbrev Agrees : Cells → Stages → Type 0
  Agrees cells st = (v : ℕ) (op : Operation) → slice_get ops v ≡ Some op → is_get op.task ≡ true → cells v ≡ st op.path op.stage

  abbrev kid : Operation → Vector → Task → Node
  kid op kept t = record {
    part = Numbered 0;
    ins = op.ins;
    asked = op.ins;
    guards = op.guards;
    outs = op.outs;
    does = record { outputs = λ row st ins. task_outputs t op.outs kept row ins; next = λ row st ins. st; initial = no_state };
  }

  node-same : (t : Task) (a b : Vector) (op : Operation) → op.task ≡ t → (is_get t ≡ true → a ≡ b) → numbered_node a op ≡ numbered_node b op
  node-same (gets v) a b op e same = ap (λ k. numbered_node k op) (same refl)
  node-same (runs k) a b op e same = ap (kid op a) e ∙ sym (ap (kid op b) e)
  node-same sets a b op e same = ap (kid op a) e ∙ sym (ap (kid op b) e)

  level-from : (cells : Cells) (st : Stages) (v : ℕ) (ys : List Operation)
      → ((i : ℕ) (op : Operation) → slice_get ys i ≡ Some op → is_get op.task ≡ true → cells (v + i) ≡ st op.path op.stage)
      → numbered_level cells v ys ≡ flat_level st ys
  level-from cells st v [] h = refl
  level-from cells st v (y ∷ ys) h =
      ap₂ (λ c cs. c ∷ cs) (node-same y.task (cells v) (st y.path y.stage) y refl (λ g. ap cells (omega arith) ∙ h 0 y refl g))
      (level-from cells st (suc v) ys (λ i op is g. ap cells (omega arith) ∙ h (suc i) op is g))

  value-same : (row : Values) (cells : Cells) (st : Stages) → Agrees cells st → numbered_value ops row cells ≡ flat_value ops row st
  value-same row cells st h = ap (λ cs. level_value cs row no_state []) (level-from cells st 0 ops (λ i op is g. ap cells (zero-add i) ∙ h i op is g))

  agrees : (rows : List Values) (k : ℕ) → Agrees (numbered_past ops rows k) (flat_past ops rows k)
  agrees rows zero v op is g = ap (λ o. with_operation o [] (λ op. initial_value op.task)) is ∙ sym (pick-at is_get (λ op. initial_value op.task) (stages_of no_state) ops one_get v op is g)
  agrees rows (suc k) v op is g =
      let row = slice_index_or rows k [] in
      let cells = numbered_past ops rows k in
      let st = flat_past ops rows k in
      let look = flat_value ops row st in
      let f = pair-at ops paired v op is g in
      let s = f.0 in
      let set : is_set s.task ≡ true = ap is_set f.2 in
      ap (λ o. with_operation o (cells v) (numbered_set (numbered_value ops row cells) (cells v))) f.1
      ∙ ap₂ (λ (l : Source → Vector) kept. numbered_set l kept s) (value-same row cells st (agrees rows k)) (agrees rows k v op is g ∙ ap₂ st (sym f.3) (sym f.4))
      ∙ sym (pick-at is_set (set_value look st) st ops one_set (suc v) s f.1 set)
      ∙ ap₂ (next_cells look st ops) f.3 f.4

  pub same_cells : SameCells ops
  same_cells = record {
    cells = agrees;
    values = λ rows k s. ap (λ (f : Source → Vector). f s) (value-same (slice_index_or rows k []) (numbered_past ops rows k) (flat_past ops rows k) (agrees rows k));
  }
