-- A table of what the operations give, as it is filled in order.
use Rattle.std.proofs.Common.{◌≡◌, ◌≢◌, ℕ, zero, suc, ◌+◌, ◌<◌, ◌≤◌, inl, inr, List, [], ◌∷◌, ◌++◌, map, take, drop, length, get_or, Bool, true, false, ◌&&◌, refl, sym, ap, ◌∙◌, arith, subst}
use Rattle.std.specs.Prelude.{Option, None, Some, slice_get, IsTrue, if◌then◌else◌}
use Rattle.std.specs.List.{list_all}
use mathlib.Core.Path.{fun_ext}
use Rattle.std.proofs.lemmas.Bool.{and_parts, cases_lt, false≢true}
use Rattle.std.proofs.lemmas.List.{take_more, get_or_past}
use Rattle.std.proofs.lemmas.Option.{slice_get_past}
use Rattle.algo_tree.specs.Level.{out, with_node}
use Rattle.flat_graph.specs.Expr.{Expr}
use Rattle.flat_graph.specs.declared.vertex.Source.{Source}
use Rattle.flat_graph.specs.declared.vertex.Guard.{Guard}
use Rattle.flat_graph.specs.declared.vertex.Kind.{Kind}
use Rattle.flat_graph.specs.declared.vertex.Kind.TheVariants.{Sensor, Actuator, Function, Constant, Get, Set, Explode, Implode, Merge}
use Rattle.flat_graph.specs.declared.vertex.Vertex.{Vertex}
use Rattle.flat_graph.specs.Graph.{Graph, with_vertex}
use Rattle.flat_graph.specs.Order.{depends_on, get_half}
use Rattle.flat_graph.specs.Valid.{is_flat}
use Rattle.flat_graph.specs.Fire.{guards_hold, kind_outputs, fired}
use Rattle.flat_graph.specs.Meaning.{is_get, delay_number, no_state, sensed, cell_of, level, outputs_in, value_in, conditions, inputs}
use Rattle.flat_graph.proofs.Nodes.{none_at}
use Rattle.flat_graph.proofs.Rounds.{ready_by_parts}
use Rattle.flat_graph.proofs.Settled.{fixed_point}
use Rattle.sync_meaning.specs.Order.{is_among, is_ready}
use Rattle.sync_meaning.specs.Store.{given, value_at, delay_cells}
use Rattle.sync_meaning.proofs.Among.{same_or_not, among_other}
use Rattle.syn_base.specs.Vectors.{Vector, Values, vector_at, zeros}

-- the cell of a get half stands beside it
pub cell_beside : (xs : List Vertex) (cells : Values) (v : ℕ) (x : Vertex) → slice_get xs v ≡ Some x → is_get x.kind ≡ true → vector_at (delay_cells xs cells) (delay_number xs v) ≡ vector_at cells v
cell_beside [] cells v x is h = absurd (cc)
cell_beside (y ∷ ys) cells zero x is h =
    let same : y ≡ x = cc in
    let here : is_get y.kind ≡ true = ap (λ (z : Vertex). is_get z.kind) same ∙ h in
    ap (λ (b : Bool). vector_at (if b then vector_at cells 0 ∷ delay_cells ys (drop 1 cells) else delay_cells ys (drop 1 cells)) 0) here
cell_beside (y ∷ ys) cells (suc v) x is h = by (is_get y.kind) (cell_beside ys (drop 1 cells) v x is h) ∙ tail cells
  where
    tail : (cs : Values) → vector_at (drop 1 cs) v ≡ vector_at cs (suc v)
    tail [] = refl
    tail (c ∷ cs) = refl

    by : (b : Bool) → vector_at (delay_cells ys (drop 1 cells)) (delay_number ys v) ≡ vector_at (drop 1 cells) v
        → vector_at (if b then vector_at cells 0 ∷ delay_cells ys (drop 1 cells) else delay_cells ys (drop 1 cells))
        (if b then delay_number ys v + 1 else delay_number ys v) ≡ vector_at (drop 1 cells) v
    by true e = let one : delay_number ys v + 1 ≡ suc (delay_number ys v) = omega arith in ap (vector_at (vector_at cells 0 ∷ delay_cells ys (drop 1 cells))) one ∙ e
    by false e = e

-- those that stand in a list give what they give
abbrev pub AreRight : Graph → Values → Values → List ℕ → List Values → Type 0
AreRight g cells row before table = (u : ℕ) → is_among before u ≡ true → given table u ≡ outputs_in g cells row u

-- the values of sources that are right
module _ (g : Graph) (cells row : Values) (before : List ℕ) (table : List Values) (right : AreRight g cells row before table) where
  inputs_right : (ss : List Source) → list_all (λ s. is_among before s.vertex) ss ≡ true → map (value_at table) ss ≡ map (value_in g cells row) ss
  inputs_right [] h = refl
  inputs_right (s ∷ ss) h =
      let both = and_parts (is_among before s.vertex) (list_all (λ (t : Source). is_among before t.vertex) ss) h in
      λ i. vector_at (right s.vertex both.0 i) s.port ∷ inputs_right ss both.1 i

  conditions_right : (gs : List Guard) → list_all (λ d. is_among before d.source.vertex) gs ≡ true → map (λ d. value_at table d.source) gs ≡ map (λ d. value_in g cells row d.source) gs
  conditions_right [] h = refl
  conditions_right (d ∷ gs) h =
      let both = and_parts (is_among before d.source.vertex) (list_all (λ (e : Guard). is_among before e.source.vertex) gs) h in
      λ i. vector_at (right d.source.vertex both.0 i) d.source.port ∷ conditions_right gs both.1 i

  -- an operation that is fired on values that are right gives what it gives
  pub right_here : IsTrue (is_flat g) → (v : ℕ) (x : Vertex) → slice_get g.vertices v ≡ Some x → is_ready g.vertices (is_among before) v ≡ true
      → fired g.bodies x (cell_of g cells v) (sensed x.kind row) (conditions (value_at table) x) (inputs (value_at table) x) ≡ outputs_in g cells row v
  right_here valid v x is ready =
      let whole : list_all (is_among before) (depends_on x) ≡ true = sym (ap (λ (o : Option Vertex). with_vertex o false (λ y. list_all (is_among before) (depends_on y))) is) ∙ ready in
      let parts = sym (ready_by_parts (is_among before) x) ∙ whole in
      let guards = list_all (λ (d : Guard). is_among before d.source.vertex) x.guards in
      let sources = list_all (λ (s : Source). is_among before s.vertex) x.ins in
      let read = (and_parts (guards && sources) (list_all (is_among before) (get_half x.kind x.twin)) parts).0 in
      let both = and_parts guards sources read in
      (λ i. fired g.bodies x (cell_of g cells v) (sensed x.kind row) (conditions_right x.guards both.0 i) (inputs_right x.ins both.1 i))
      ∙ sym (fixed_point g cells row valid v x is)

module _ (g : Graph) (row kept : Values) where
  -- a cell matters to a get half alone, beside which it stands
  pub same_cell : (v : ℕ) (x : Vertex) (is : slice_get g.vertices v ≡ Some x) (cs vs : Values)
      → fired g.bodies x (vector_at kept v) (sensed x.kind row) cs vs ≡ fired g.bodies x (cell_of g (delay_cells g.vertices kept) v) (sensed x.kind row) cs vs
  same_cell v x is cs vs = ap (λ (us : Values). if guards_hold x.guards cs then us else map zeros x.outs) (by x.kind refl)
    where
      by : (kind : Kind) → x.kind ≡ kind
          → kind_outputs g.bodies kind x.outs (vector_at kept v) (sensed kind row) vs ≡ kind_outputs g.bodies kind x.outs (cell_of g (delay_cells g.vertices kept) v) (sensed kind row) vs
      by (Get z) k = ap (λ (c : Vector). c ∷ []) (sym (cell_beside g.vertices kept v x is (ap is_get k)))
      by (Sensor i) k = refl
      by (Actuator i) k = refl
      by (Function b) k = refl
      by (Constant z) k = refl
      by Set k = refl
      by Explode k = refl
      by Implode k = refl
      by (Merge values) k = refl

  -- one operation more
  pub right_more : IsTrue (is_flat g) → (order : List ℕ) (i v : ℕ) (old new : List Values) → i < length order → v ≡ get_or order i 0 → is_ready g.vertices (is_among (take i order)) v ≡ true
      → AreRight g (delay_cells g.vertices kept) row (take i order) old
      → ((x : Vertex) → slice_get g.vertices v ≡ Some x → given new v ≡ fired g.bodies x (vector_at kept v) (sensed x.kind row) (conditions (value_at old) x) (inputs (value_at old) x))
      → ((u : ℕ) → u ≢ v → given new u ≡ given old u) → AreRight g (delay_cells g.vertices kept) row (take (i + 1) order) new
  right_more valid order i v old new lt at ready right here others u among = elim (same_or_not u v) [
    | inl same ↦ subst (λ (w : ℕ). given new w ≡ outputs_in g (delay_cells g.vertices kept) row w) (sym same) (by (slice_get g.vertices v) refl ready)
    | inr other ↦ others u other ∙ right u
        (among_other (take i order) v u other
        (ap (λ (us : List ℕ). is_among us u) (sym (take_more order i 0 lt ∙ ap (λ (w : ℕ). take i order ++ w ∷ []) (sym at))) ∙ among))
  ]
    where
      by : (o : Option Vertex) → slice_get g.vertices v ≡ o → with_vertex o false (λ x. list_all (is_among (take i order)) (depends_on x))
          ≡ true → given new v ≡ outputs_in g (delay_cells g.vertices kept) row v
      by None is h = absurd (false≢true h)
      by (Some x) is h =
          here x is ∙ same_cell v x is (conditions (value_at old) x) (inputs (value_at old) x)
          ∙ right_here g (delay_cells g.vertices kept) row (take i order) old right valid v x is ready

-- where all operations are right, the table is
nothing_out : (g : Graph) (cells row : Values) (fuel u : ℕ) → slice_get (level g cells) u ≡ None → out (level g cells) row no_state [] fuel u ≡ []
nothing_out g cells row zero u e = rw e refl
nothing_out g cells row (suc fuel) u e = rw e refl

pub all_right : (g : Graph) (cells row : Values) (order : List ℕ) (table : List Values) → length table ≡ length g.vertices
    → ((v : ℕ) → v < length g.vertices → is_among order v ≡ true) → AreRight g cells row order table
    → (u : ℕ) → given table u ≡ outputs_in g cells row u
all_right g cells row order table count all right u = elim (cases_lt u (length g.vertices)) [
  | inl there ↦ right u (all u there)
  | inr past ↦ get_or_past table u [] (omega (arith, count)) ∙ sym (nothing_out g cells row (length (level g cells)) u (none_at g cells u 0 g.vertices (slice_get_past g.vertices u (omega arith))))
]

-- and so are the values of all sources
pub same_look : (g : Graph) (cells row : Values) (table : List Values) → ((u : ℕ) → given table u ≡ outputs_in g cells row u) → value_at table ≡ value_in g cells row
same_look g cells row table right = fun_ext (λ s. ap (λ (vs : Values). vector_at vs s.port) (right s.vertex))
