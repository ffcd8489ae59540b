-- A flat graph that stands for a flat list gives and keeps the same.
use Rattle.std.proofs.Common.{
  ◌≡◌,
  ℕ,
  zero,
  suc,
  ◌+◌,
  ℤ,
  List,
  [],
  ◌∷◌,
  ◌++◌,
  take,
  drop,
  length,
  map,
  slice_index_or,
  Bool,
  true,
  false,
  cond,
  Option,
  Some,
  slice_get,
  refl,
  sym,
  ap,
  ap₂,
  ◌∙◌,
  subst,
  arith,
  add-zero,
  add-one,
  zero-add,
}
use Rattle.std.specs.Prelude.{if◌then◌else◌}
use mathlib.Core.Path.{fun_ext}
use Rattle.std.proofs.lemmas.Bool.{false≢true}
use Rattle.algo_tree.specs.declared.Source.{Source}
use Rattle.algo_tree.specs.declared.Part.TheVariants.{Numbered}
use Rattle.algo_tree.specs.Level.{Path, level_value}
use Rattle.algo_tree.specs.Tree as tree
use Rattle.algo_tree.specs.Meaning.{input_value}
use Rattle.algo_tree.specs.Valid.{IsTree}
use Rattle.flat_graph.specs.Expr.{Expr}
use Rattle.flat_graph.specs.declared.vertex.Source as flat_source
use Rattle.flat_graph.specs.declared.vertex.Kind.{Kind}
use Rattle.flat_graph.specs.declared.vertex.Kind.TheVariants.{Sensor, Actuator, Function, Constant, Get, Set, Explode, Implode, Merge}
use Rattle.flat_graph.specs.declared.vertex.Vertex.{Vertex}
use Rattle.flat_graph.specs.Graph.{Graph, with_vertex}
use Rattle.flat_graph.specs.Fire.{guards_hold, kind_outputs, kept as kept_by, stored}
use Rattle.flat_graph.specs.Meaning.{
  level_source,
  level_guard,
  sensed,
  is_get,
  delay_number,
  no_state,
  node_of,
  cell_of,
  nodes_from,
  level,
  value_in,
  conditions,
  inputs,
  reads,
  initial_cell,
  initial_cells,
  taken_by,
  taken,
  cells_after,
  flat_act_row,
}
use Rattle.flat_graph.proofs.Settled.{same_guards, same_inputs}
use Rattle.flat_graph.proofs.Fired.{is_kept, first_reads, last_reads}
use Rattle.flat_laws.specs.Flat as list
use Rattle.flat_laws.specs.Flat.{Operation, gets, is_set, task_outputs, initial_value, flat_past, flat_taken}
use Rattle.flat_laws.specs.Inlined.{operations}
use Rattle.flat_laws.specs.Plain.{IsPlain}
use Rattle.flat_laws.specs.Numbered.{Cells, SameCells, numbered_node, numbered_level, numbered_value, numbered_set, numbered_past, with_operation}
use Rattle.flat_laws.proofs.Flatten.{flatten-keeps}
use Rattle.flat_laws.proofs.Numbered.{Paired, pair-at}
use Rattle.flat_laws.proofs.Pairs.{paired-main, same_cells-main}
use Rattle.flat_laws.specs.Stands.{task_of, operation_at, IsTwin, StandsFor, AllStand, Stands, KeepsGraph}
use Rattle.syn_base.specs.Vectors.{Vector, Values, vector_at}

pub kind_get : (k : Kind) → is_get k ≡ true → (z : List ℤ) × (k ≡ Get z)
kind_get (Get z) h = (z, refl)
kind_get (Sensor i) h = absurd (false≢true h)
kind_get (Actuator i) h = absurd (false≢true h)
kind_get (Function b) h = absurd (false≢true h)
kind_get (Constant z) h = absurd (false≢true h)
kind_get Set h = absurd (false≢true h)
kind_get Explode h = absurd (false≢true h)
kind_get Implode h = absurd (false≢true h)
kind_get (Merge values) h = absurd (false≢true h)

module _ (bodies : List (List Expr)) where
  pub kind_set : (k : Kind) → is_set (task_of bodies k) ≡ true → k ≡ Set
  kind_set Set h = refl
  kind_set (Get z) h = absurd (false≢true h)
  kind_set (Sensor i) h = absurd (false≢true h)
  kind_set (Actuator i) h = absurd (false≢true h)
  kind_set (Function b) h = absurd (false≢true h)
  kind_set (Constant z) h = absurd (false≢true h)
  kind_set Explode h = absurd (false≢true h)
  kind_set Implode h = absurd (false≢true h)
  kind_set (Merge values) h = absurd (false≢true h)

  pub get_task : (k : Kind) → list.is_get (task_of bodies k) ≡ is_get k
  get_task (Sensor i) = refl
  get_task (Actuator i) = refl
  get_task (Function b) = refl
  get_task (Constant z) = refl
  get_task (Get z) = refl
  get_task Set = refl
  get_task Explode = refl
  get_task Implode = refl
  get_task (Merge values) = refl

  -- an active operation gives the same, from the same cell
  same_task : (k : Kind) (outs : List ℕ) (cell kept : Vector) (row ins : Values) → (is_get k ≡ true → kept ≡ cell)
      → kind_outputs bodies k outs cell (sensed k row) ins ≡ task_outputs (task_of bodies k) outs kept row ins
  same_task (Sensor i) outs cell kept row ins h = refl
  same_task (Actuator i) outs cell kept row ins h = refl
  same_task (Function b) outs cell kept row ins h = refl
  same_task (Constant z) outs cell kept row ins h = refl
  same_task (Get z) outs cell kept row ins h = ap (λ v. v ∷ []) (sym (h refl))
  same_task Set outs cell kept row ins h = refl
  same_task Explode outs cell kept row ins h = refl
  same_task Implode outs cell kept row ins h = refl
  same_task (Merge values) outs cell kept row ins h = refl

  same_node : (x : Vertex) (path : Path) (stage : ℕ) (cell kept : Vector) → (is_get x.kind ≡ true → kept ≡ cell) → node_of bodies cell x ≡ numbered_node kept (operation_at bodies path stage x)
  same_node x path stage cell kept h i = record {
    part = Numbered 0;
    ins = map level_source x.ins;
    asked = map level_source x.ins;
    guards = map level_guard x.guards;
    outs = x.outs;
    does = record { outputs = λ row st ins. same_task x.kind x.outs cell kept row ins h i; next = λ row st ins. st; initial = no_state };
  }

  -- the vertex and the operation of one number
  pub operation_of : (a : ℕ) (xs : List Vertex) (ops : List Operation) → AllStand bodies a xs ops → (v : ℕ) (x : Vertex) → slice_get xs v ≡ Some x
      → (op : Operation) × (slice_get ops v ≡ Some op) × StandsFor bodies (a + v) x op
  operation_of a [] ops h v x is = absurd (cc)
  operation_of a (y ∷ xs) [] h v x is = absurd h
  operation_of a (y ∷ xs) (op ∷ ops) h zero x is =
      let e : y ≡ x = cc in
      let n : a ≡ a + 0 = omega arith in
      (op, refl, subst (λ m. StandsFor bodies m x op) n (subst (λ z. StandsFor bodies a z op) e h.0))
  operation_of a (y ∷ xs) (op ∷ ops) h (suc v) x is =
      let n : suc a + v ≡ a + suc v = omega arith in
      let f = operation_of (suc a) xs ops h.1 v x is in
      (f.0, f.1, subst (λ m. StandsFor bodies m x f.0) n f.2)

  pub vertex_of : (a : ℕ) (xs : List Vertex) (ops : List Operation) → AllStand bodies a xs ops → (v : ℕ) (op : Operation) → slice_get ops v ≡ Some op
      → (x : Vertex) × (slice_get xs v ≡ Some x) × StandsFor bodies (a + v) x op
  vertex_of a xs [] h v op is = absurd (cc)
  vertex_of a [] (o ∷ ops) h v op is = absurd h
  vertex_of a (x ∷ xs) (o ∷ ops) h zero op is =
      let e : o ≡ op = cc in
      let n : a ≡ a + 0 = omega arith in
      (x, refl, subst (λ m. StandsFor bodies m x op) n (subst (λ z. StandsFor bodies a x z) e h.0))
  vertex_of a (x ∷ xs) (o ∷ ops) h (suc v) op is =
      let n : suc a + v ≡ a + suc v = omega arith in
      let f = vertex_of (suc a) xs ops h.1 v op is in
      (f.0, f.1, subst (λ m. StandsFor bodies m f.0 op) n f.2)

  -- what a set half leaves
  module _ (look : Source → Vector) (y : Vertex) (cell : Vector) where
    either_set : (b : Bool) (vs : Values) → cond b (vector_at vs 0) cell ≡ stored Set b cell (vector_at vs 0)
    either_set true vs = refl
    either_set false vs = refl

    set_same : (path : Path) (stage : ℕ) → y.kind ≡ Set
        → numbered_set look cell (operation_at bodies path stage y) ≡ kept_by y cell (conditions (λ s. look (level_source s)) y) (inputs (λ s. look (level_source s)) y)
    set_same path stage e =
        (λ i. cond (same_guards look y.guards i) (vector_at (same_inputs look y.ins i) 0) cell)
        ∙ either_set (guards_hold y.guards (conditions (λ s. look (level_source s)) y)) (inputs (λ s. look (level_source s)) y)
        ∙ ap (λ k. stored k (guards_hold y.guards (conditions (λ s. look (level_source s)) y)) cell (vector_at (inputs (λ s. look (level_source s)) y) 0)) (sym e)

  -- what is taken
  module _ (look : Source → Vector) where
    first_input : (ss : List flat_source.Source) → vector_at (map (λ s. look (level_source s)) ss) 0 ≡ input_value look (map level_source ss)
    first_input [] = refl
    first_input (s ∷ ss) = refl

    taken_one : (x : Vertex) (path : Path) (stage : ℕ) (k : Kind) → taken_by (λ s. look (level_source s)) x k ≡ list.taken look (operation_at bodies path stage x) (task_of bodies k)
    taken_one x path stage (Actuator i) = ap (λ v. v ∷ []) (first_input x.ins)
    taken_one x path stage (Sensor i) = refl
    taken_one x path stage (Function b) = refl
    taken_one x path stage (Constant z) = refl
    taken_one x path stage (Get z) = refl
    taken_one x path stage Set = refl
    taken_one x path stage Explode = refl
    taken_one x path stage Implode = refl
    taken_one x path stage (Merge values) = refl

    taken_same : (a : ℕ) (xs : List Vertex) (ops : List Operation) → AllStand bodies a xs ops → taken (λ s. look (level_source s)) xs ≡ flat_taken look ops
    taken_same a [] [] h = refl
    taken_same a [] (op ∷ ops) h = absurd h
    taken_same a (x ∷ xs) [] h = absurd h
    taken_same a (x ∷ xs) (op ∷ ops) h =
        ap₂ (λ us vs. us ++ vs) (taken_one x op.path op.stage x.kind ∙ ap (λ (o : Operation). list.taken look o o.task) (sym h.0.same)) (taken_same (suc a) xs ops h.1)

-- the initial cell of a get half stands at the number of its delay
initial_at : (xs : List Vertex) (v : ℕ) (x : Vertex) (z : List ℤ) → slice_get xs v ≡ Some x → x.kind ≡ Get z → vector_at (initial_cells xs) (delay_number xs v) ≡ z
initial_at [] v x z is k = absurd (cc)
initial_at (y ∷ ys) zero x z is k =
    let same : y ≡ x = cc in
    let kind : y.kind ≡ Get z = ap (λ (u : Vertex). u.kind) same ∙ k in
    (λ j. vector_at (initial_cell (kind j) ++ initial_cells ys) 0)
initial_at (y ∷ ys) (suc v) x z is k = by y.kind (initial_at ys v x z is k)
  where
    by : (kind : Kind) → vector_at (initial_cells ys) (delay_number ys v) ≡ z → vector_at (initial_cell kind ++ initial_cells ys) (if is_get kind then delay_number ys v + 1 else delay_number ys v) ≡ z
    by (Get w) r = rw add-one r
    by _ r = r

module _ (g : Graph) (ops : List Operation) (stands : Stands g ops) (paired : Paired ops) where
  abbrev Agrees : Values → Cells → Type 0
  Agrees cells kept = (v : ℕ) (x : Vertex) → slice_get g.vertices v ≡ Some x → is_get x.kind ≡ true → kept v ≡ cell_of g cells v

  same_level : (cells : Values) (kept : Cells) (v : ℕ) (xs : List Vertex) (os : List Operation) → AllStand g.bodies v xs os
      → ((i : ℕ) (x : Vertex) → slice_get xs i ≡ Some x → is_get x.kind ≡ true → kept (v + i) ≡ cell_of g cells (v + i))
      → nodes_from g cells v xs ≡ numbered_level kept v os
  same_level cells kept v [] [] h same = refl
  same_level cells kept v [] (o ∷ os) h same = absurd h
  same_level cells kept v (x ∷ xs) [] h same = absurd h
  same_level cells kept v (x ∷ xs) (o ∷ os) h same =
      ap₂ (λ c cs. c ∷ cs)
      (same_node g.bodies x o.path o.stage (cell_of g cells v) (kept v) (λ e. subst (λ m. kept m ≡ cell_of g cells m) (add-zero v) (same 0 x refl e)) ∙ ap (numbered_node (kept v)) (sym h.0.same))
      (same_level cells kept (suc v) xs os h.1 (λ i y is e. let n : v + suc i ≡ suc v + i = omega arith in subst (λ m. kept m ≡ cell_of g cells m) n (same (suc i) y is e)))

  same_value : (row : Values) (cells : Values) (kept : Cells) → Agrees cells kept → level_value (level g cells) row no_state [] ≡ numbered_value ops row kept
  same_value row cells kept h =
      ap (λ cs. level_value cs row no_state []) (same_level cells kept 0 g.vertices ops stands (λ i x is e. subst (λ m. kept m ≡ cell_of g cells m) (sym (zero-add i)) (h i x is e)))

  abbrev opening : Values
  opening = initial_cells g.vertices

  agrees : (rows : List Values) (k : ℕ) → Agrees (cells_after g rows opening k) (numbered_past ops rows k)
  agrees rows zero v x is e =
      let f = operation_of g.bodies 0 g.vertices ops stands v x is in
      let z = kind_get x.kind e in
      ap (λ o. with_operation o [] (λ op. initial_value op.task)) f.1
      ∙ ap (λ (o : Operation). initial_value o.task) f.2.same
      ∙ ap (λ t. initial_value (task_of g.bodies t)) z.1
      ∙ sym (initial_at g.vertices v x z.0 is z.1)
  agrees rows (suc k) v x is e =
      let row = slice_index_or rows k [] in
      let cells = cells_after g rows opening k in
      let kept = numbered_past ops rows k in
      let f = operation_of g.bodies 0 g.vertices ops stands v x is in
      let z = kind_get x.kind e in
      let task : f.0.task ≡ gets z.0 = ap (λ (o : Operation). o.task) f.2.same ∙ ap (task_of g.bodies) z.1 in
      let twin : x.twin ≡ Some (suc v) = subst (λ m. x.twin ≡ Some (suc m)) (zero-add v) (subst (λ t. IsTwin (0 + v) t x.twin) task f.2.twin) in
      let p = pair-at ops paired v f.0 f.1 (ap list.is_get task) in
      let s = p.0 in
      let y = vertex_of g.bodies 0 g.vertices ops stands (suc v) s p.1 in
      let set : y.0.kind ≡ Set = kind_set g.bodies y.0.kind (ap (λ (o : Operation). is_set o.task) (sym y.2.same) ∙ ap is_set p.2) in
      next rows k v x z.0 s y.0 is z.1 twin p.1 y.1 y.2.same set (agrees rows k v x is e) (agrees rows k)
    where
      next : (rows : List Values) (k v : ℕ) (x : Vertex) (z : List ℤ) (s : Operation) (y : Vertex) → slice_get g.vertices v ≡ Some x
          → x.kind ≡ Get z → x.twin ≡ Some (suc v) → slice_get ops (suc v) ≡ Some s
          → slice_get g.vertices (suc v) ≡ Some y → s ≡ operation_at g.bodies s.path s.stage y → y.kind ≡ Set → numbered_past ops rows k v
          ≡ cell_of g (cells_after g rows opening k) v → Agrees (cells_after g rows opening k) (numbered_past ops rows k)
          → numbered_past ops rows (suc k) v ≡ cell_of g (cells_after g rows opening (suc k)) v
      next rows k v x z s y is kind twin at there same set here all =
          let row = slice_index_or rows k [] in
          let cells = cells_after g rows opening k in
          let kept = numbered_past ops rows k in
          let cell = cell_of g cells v in
          let look = level_value (level g cells) row no_state [] in
          let read = reads (value_in g cells row) y in
          ap (λ o. with_operation o (kept v) (numbered_set (numbered_value ops row kept) (kept v))) at
          ∙ (λ i. numbered_set (sym (same_value row cells kept all) i) (here i) (same i))
          ∙ set_same g.bodies look y cell s.path s.stage set
          ∙ sym (
          is_kept g cells row v (suc v) x y z is kind twin there
          ∙ ap (λ (o : Option Vertex). with_vertex o cell (λ u. kept_by u cell (drop (length u.ins) read) (take (length u.ins) read))) there
          ∙ (λ i. kept_by y cell (last_reads (value_in g cells row) y i) (first_reads (value_in g cells row) y i)))

  taken_list : SameCells ops → (rows : List Values) (k : ℕ) → flat_act_row g rows opening k ≡ list.flat_act_row ops rows k
  taken_list cells rows k =
      let row = slice_index_or rows k [] in
      let values = same_value row (cells_after g rows opening k) (numbered_past ops rows k) (agrees rows k) ∙ fun_ext (λ s. cells.values rows k s) in
      taken_same g.bodies (level_value (level g (cells_after g rows opening k)) row no_state []) 0 g.vertices ops stands ∙ ap (λ (f : Source → Vector). flat_taken f ops) values

  kept_list : SameCells ops → (rows : List Values) (k v : ℕ) (op : Operation) → slice_get ops v ≡ Some op → list.is_get op.task ≡ true
      → flat_past ops rows k op.path op.stage ≡ cell_of g (cells_after g rows opening k) v
  kept_list cells rows k v op is e =
      let x = vertex_of g.bodies 0 g.vertices ops stands v op is in
      let get : is_get x.0.kind ≡ true = sym (get_task g.bodies x.0.kind) ∙ ap (λ (o : Operation). list.is_get o.task) (sym x.2.same) ∙ e in
      sym (cells.cells rows k v op is e) ∙ agrees rows k v x.0 x.1 get

pub stands-keeps : (main : tree.Vertex) (g : Graph) → IsTree main → IsPlain main → Stands g (operations main) → KeepsGraph main g (operations main)
stands-keeps main g h plain stands =
    let ops = operations main in
    let flat = flatten-keeps main h plain in
    let cells = same_cells-main main h plain in
    record {
      taken = λ rows k. taken_list g ops stands (paired-main main) cells rows k ∙ flat.taken rows k;
      kept = λ rows k v op is e. sym (flat.kept rows k op.path op.stage) ∙ kept_list g ops stands (paired-main main) cells rows k v op is e;
    }
