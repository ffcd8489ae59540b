-- An operation of a valid graph may be fired: its sources stand in the store, and none is its own output.
use Rattle.std.proofs.Common.{
  ◌≡◌,
  ◌≢◌,
  ℕ,
  zero,
  suc,
  ◌+◌,
  ◌<◌,
  ◌≤◌,
  Bool,
  true,
  false,
  ◌&&◌,
  inl,
  inr,
  ℤ,
  pos,
  List,
  [],
  ◌∷◌,
  ◌++◌,
  length,
  get_or,
  map,
  refl,
  sym,
  ap,
  ap₂,
  subst,
  ◌∙◌,
  arith,
  zero-add,
}
use Rattle.std.specs.Prelude.{Option, None, Some, IsTrue, if◌then◌else◌, slice_get, sum, ◌⊎◌}
use Rattle.std.specs.List.{list_all, range_with_len}
use Rattle.std.proofs.lemmas.Bool.{and_parts, false≢true}
use Rattle.std.proofs.lemmas.Option.{slice_get_within}
use Rattle.std.proofs.lemmas.List.{get_or-map, length-map, replicate-append-replicate}
use Rattle.std.proofs.lemmas.List.FromFn.{get_or-range_with_len, length-range_with_len}
use Rattle.std.proofs.lemmas.List.Sums.{AllPass-from_list_all, sum_by-cons}
use Rattle.syn_base.specs.Vectors.{Vector, Values, vector_at, zeros}
use Rattle.flat_graph.specs.declared.vertex.Source.{Source}
use Rattle.flat_graph.specs.declared.vertex.Guard.{Guard}
use Rattle.flat_graph.specs.declared.vertex.Vertex.{Vertex}
use Rattle.flat_graph.specs.Graph.{Graph, with_vertex, len_of, lens_of}
use Rattle.flat_graph.specs.Order.{depends_on, get_half, is_done, is_acyclic}
use Rattle.flat_graph.specs.Valid.{is_flat, fits}
use Rattle.flat_graph.specs.Fire.{fired, guards_hold, kind_outputs, seen_len}
use Rattle.flat_graph.specs.Meaning.{conditions, inputs}
use Rattle.flat_graph.specs.Level.{all_joined}
use Rattle.flat_graph.proofs.KindLens.{length-zeros}
use Rattle.flat_graph.proofs.Facts.{vertex_valid, fits_of}
use Rattle.flat_graph.proofs.ReadLens.{seen_len_is}
use Rattle.flat_graph.proofs.Rounds.{ready_by_parts}
use Rattle.flat_graph.proofs.Settled.{acyclic_of}
use Rattle.expression_code.specs.Code.{word, words}
use Rattle.expression_code.specs.Compiled.{AreBelow, span_at}
use Rattle.expression_code.specs.declared.step.Span.{Span}
use Rattle.graph_code.specs.declared.operation.Operation.{Operation}
use Rattle.graph_code.specs.Places.{width_of, start_of, output_span, span_of, value_at}
use Rattle.graph_code.specs.Compiled.{AreOperations, IsOperation, IsOperationAt}
use Rattle.graph_code.specs.Fired.{AreApart, CellFits, HasFired, IsPut, IsReady, joined_outputs, rows_of}
use Rattle.graph_code.proofs.Words.{words_len}
use Rattle.graph_code.proofs.Tables.{inside, put_here, put_others, span_apart, span_below, value_is}
use Rattle.graph_code.proofs.Each.{each_at}
use Rattle.graph_code.proofs.Firing.{outputs_long}
use Rattle.graph_code.proofs.Writing.{put_less, put_same}

none : Source
none = record { vertex = 0; port = 0 }

module _ (xs : List Vertex) (store : List ℤ) where
  -- the words of the spans are the values of the sources
  pub rows_are : (ss : List Source) → rows_of store (map (span_of xs) ss) ≡ map (value_at xs store) ss
  rows_are [] = refl
  rows_are (s ∷ ss) = ap₂ (λ a b. a ∷ b) (sym (value_is xs store s)) (rows_are ss)

  pub conditions_are : (gs : List Guard) → rows_of store (map (λ g. span_of xs g.source) gs) ≡ map (λ g. value_at xs store g.source) gs
  conditions_are [] = refl
  conditions_are (g ∷ gs) = ap₂ (λ a b. a ∷ b) (sym (value_is xs store g.source)) (conditions_are gs)

  span_len : (s : Source) → (span_of xs s).len ≡ len_of xs s
  span_len s = by (slice_get xs s.vertex)
    where
      by : (o : Option Vertex) → (with_vertex o (record { start = 0; len = 0 }) (λ x. output_span (start_of xs s.vertex) x.outs s.port)).len ≡ with_vertex o 0 (λ x. get_or x.outs s.port 0)
      by None = refl
      by (Some x) = refl

  pub lens_are : width_of xs ≤ length store → (ss : List Source) → map (λ v. length v) (map (value_at xs store) ss) ≡ lens_of xs ss
  lens_are wide [] = refl
  lens_are wide (s ∷ ss) =
      ap₂ (λ a b. a ∷ b)
      (ap (λ (v : Vector). length v) (value_is xs store s) ∙ words_len store (span_of xs s).start (span_of xs s).len (omega (arith, span_below xs s)) ∙ span_len s)
      (lens_are wide ss)

-- no operation reads itself
done_before : (xs : List Vertex) (rounds v : ℕ) (x : Vertex) → slice_get xs v ≡ Some x → is_done xs (suc rounds) v ≡ true → (k : ℕ) → k
    < length x.ins → is_done xs rounds (get_or x.ins k none).vertex ≡ true
done_before xs rounds v x is h k l =
    let whole : list_all (is_done xs rounds) (depends_on x) ≡ true = sym (ap (λ (o : Option Vertex). with_vertex o false (λ y. list_all (is_done xs rounds) (depends_on y))) is) ∙ h in
    let parts = sym (ready_by_parts (is_done xs rounds) x) ∙ whole in
    let guards = list_all (λ (d : Guard). is_done xs rounds d.source.vertex) x.guards in
    let sources = list_all (λ (s : Source). is_done xs rounds s.vertex) x.ins in
    let read = (and_parts (guards && sources) (list_all (is_done xs rounds) (get_half x.kind x.twin)) parts).0 in
    AllPass-from_list_all (λ (s : Source). is_done xs rounds s.vertex) x.ins (and_parts guards sources read).1 k none l

not_own : (xs : List Vertex) (rounds v : ℕ) (x : Vertex) → slice_get xs v ≡ Some x → is_done xs rounds v ≡ true → (k : ℕ) → k < length x.ins → (get_or x.ins k none).vertex ≢ v
not_own xs zero v x is h k l e = absurd (false≢true h)
not_own xs (suc rounds) v x is h k l e =
    not_own xs rounds v x is (ap (is_done xs rounds) (sym e) ∙ done_before xs rounds v x is h k l) k l e

all_done : (xs : List Vertex) → is_acyclic xs ≡ true → (v : ℕ) → v < length xs → is_done xs (length xs) v ≡ true
all_done xs h v l =
    let range : List ℕ = range_with_len 0 (length xs) in
    let ranged : v < length range = omega (arith, l, length-range_with_len 0 (length xs)) in
    let same : get_or range v 0 ≡ v = get_or-range_with_len 0 (length xs) v 0 l ∙ zero-add v in
    ap (is_done xs (length xs)) (sym same) ∙ AllPass-from_list_all (is_done xs (length xs)) range h v 0 ranged

-- an operation may be fired over its code
pub ready : (g : Graph) → IsTrue (is_flat g) → (v : ℕ) (x : Vertex) → slice_get g.vertices v ≡ Some x → (o : Operation) (cell seen : Vector) (store : List ℤ)
    → IsOperation g (length store) v x o → CellFits g v cell → length seen ≡ seen_len g v → width_of g.vertices ≤ length store
    → IsReady g x o cell seen store
ready g valid v x is o cell seen store op cell_is seen_is wide =
    let xs = g.vertices in
    let rows : rows_of store o.inputs.items ≡ inputs (value_at xs store) x = ap (rows_of store) op.inputs ∙ rows_are xs store x.ins in
    let lens : map (λ v. length v) (rows_of store o.inputs.items) ≡ lens_of xs x.ins = ap (map (λ (u : Vector). length u)) rows ∙ lens_are xs store wide x.ins in
    let to_start : o.to.start ≡ start_of xs v = ap (λ (t : Span). t.start) op.to in
    let to_len : o.to.len ≡ sum x.outs = ap (λ (t : Span). t.len) op.to in
    let count : length o.inputs.items ≡ length x.ins = ap (λ (ts : List Span). length ts) op.inputs ∙ length-map x.ins (span_of xs) in
    let span : (k : ℕ) → k < length x.ins → span_at o.inputs.items k ≡ span_of xs (get_or x.ins k none) = λ k l.
    ap (λ ts. span_at ts k) op.inputs ∙ get_or-map (span_of xs) x.ins k none (record { start = 0; len = 0 }) l in
    record {
      form = ap (λ ns. fits g.bodies x.kind ns x.outs) lens ∙ fits_of g v x (vertex_valid g valid v x is);
      cell_len = cell_is x is;
      seen_len = seen_is ∙ seen_len_is g v x is;
      to_len = to_len;
      to_fits = omega (arith, to_start, to_len, inside xs v x is);
      fits = wide;
      below = λ k h.
          let l : k < length x.ins = omega (arith, h, count) in
          subst (λ (t : Span). t.start + t.len ≤ width_of xs) (sym (span k l)) (span_below xs (get_or x.ins k none));
      apart = λ k h.
          let l : k < length x.ins = omega (arith, h, count) in
          let own = not_own xs (length xs) v x is (all_done xs (acyclic_of g valid) v (slice_get_within xs v x is)) k l in
          subst (λ (t : Span). (t.start + t.len ≤ o.to.start) ⊎ (o.to.start + o.to.len ≤ t.start)) (sym (span k l))
          (subst (λ n. ((span_of xs (get_or x.ins k none)).start + (span_of xs (get_or x.ins k none)).len ≤ n) ⊎ (n + o.to.len ≤ (span_of xs (get_or x.ins k none)).start)) (sym to_start)
          (subst (λ n. ((span_of xs (get_or x.ins k none)).start + (span_of xs (get_or x.ins k none)).len ≤ start_of xs v)
          ⊎ (start_of xs v + n ≤ (span_of xs (get_or x.ins k none)).start)) (sym to_len)
          (span_apart xs (get_or x.ins k none) v x is own)));
      code = op.code;
    }

-- the operation at a place, and its code
pub some_at : (xs : List Vertex) (v : ℕ) → v < length xs → (x : Vertex) × (slice_get xs v ≡ Some x)
some_at [] v h = absurd (omega arith)
some_at (x ∷ xs) zero h = (x, refl)
some_at (x ∷ xs) (suc v) h = some_at xs v (omega arith)

pub operation_at : (g : Graph) (room : ℕ) (os : List Operation) (v : ℕ) (x : Vertex) (o : Operation) → AreOperations g room os
    → slice_get g.vertices v ≡ Some x → o ≡ get_or os v o → IsOperation g room v x o
operation_at g room os v x o are is same =
    let l : v < length os = omega (arith, slice_get_within g.vertices v x is, are.count) in
    let at : IsOperationAt g room (0 + v) (get_or os v o) = each_at (IsOperationAt g room) 0 os v o l are.each in
    let here : IsOperationAt g room v (get_or os v o) = subst (λ n. IsOperationAt g room n (get_or os v o)) (zero-add v) at in
    subst (λ p. IsOperation g room v x p) (sym same) (here x is)

module _ (g : Graph) (room v : ℕ) (x : Vertex) (o : Operation) (op : IsOperation g room v x o) (store : List ℤ) where
  pub condition_count : length o.conditions.items ≡ length x.guards
  condition_count = ap (λ (ts : List Span). length ts) op.conditions ∙ length-map x.guards (λ (c : Guard). span_of g.vertices c.source)

  pub conditions_below : width_of g.vertices ≤ length store → AreBelow (length store) o.conditions.items
  conditions_below wide k h =
      let l : k < length x.guards = omega (arith, h, condition_count) in
      let first : Guard = record { source = none; values = []; case = 0 } in
      let span : span_at o.conditions.items k ≡ span_of g.vertices (get_or x.guards k first).source =
      ap (λ ts. span_at ts k) op.conditions ∙ get_or-map (λ (c : Guard). span_of g.vertices c.source) x.guards k first (record { start = 0; len = 0 }) l in
      subst (λ (t : Span). t.start + t.len ≤ length store) (sym span) (omega (arith, wide, span_below g.vertices (get_or x.guards k first).source))

  pub condition_rows : rows_of store o.conditions.items ≡ conditions (value_at g.vertices store) x
  condition_rows = ap (rows_of store) op.conditions ∙ conditions_are g.vertices store x.guards

  pub input_rows : rows_of store o.inputs.items ≡ inputs (value_at g.vertices store) x
  input_rows = ap (rows_of store) op.inputs ∙ rows_are g.vertices store x.ins

  pub input_long : length o.inputs.items ≡ length x.ins
  input_long = ap (λ (ts : List Span). length ts) op.inputs ∙ length-map x.ins (span_of g.vertices)

  -- an input, by its span
  module _ (k : ℕ) (span : Span) (l : k < length x.ins) (same : span ≡ get_or o.inputs.items k span) where
    pub input_inside : width_of g.vertices ≤ length store → span.start + span.len ≤ length store
    input_inside wide =
        let is : span ≡ span_of g.vertices (get_or x.ins k none) = same ∙ ap (λ ts. get_or ts k span) op.inputs ∙ get_or-map (span_of g.vertices) x.ins k none span l in
        subst (λ (t : Span). t.start + t.len ≤ length store) (sym is) (omega (arith, wide, span_below g.vertices (get_or x.ins k none)))

    pub input_row : words store span.start span.len ≡ vector_at (inputs (value_at g.vertices store) x) k
    input_row =
        ap (λ (t : Span). words store t.start t.len) same
        ∙ sym (get_or-map (λ (t : Span). words store t.start t.len) o.inputs.items k span [] (omega (arith, l, input_long)))
        ∙ ap (λ vs. vector_at vs k) input_rows

joined_zeros : (outs : List ℕ) → zeros (sum outs) ≡ all_joined (map zeros outs)
joined_zeros [] = refl
joined_zeros (n ∷ outs) =
    ap zeros (sum_by-cons (λ y. y) n outs) ∙ sym (replicate-append-replicate n (sum outs) (pos 0)) ∙ ap (λ v. zeros n ++ v) (joined_zeros outs)

-- what was written is what the operation gives
module _ (g : Graph) (room v : ℕ) (x : Vertex) (o : Operation) (cell seen : Vector) (store new : List ℤ)
    (is : slice_get g.vertices v ≡ Some x) (op : IsOperation g room v x o) (wide : width_of g.vertices ≤ length store) where
  to_start : o.to.start ≡ start_of g.vertices v
  to_start = ap (λ (t : Span). t.start) op.to

  gives : (vs : Values) → map (λ w. length w) vs ≡ x.outs → vs ≡ fired g.bodies x cell seen (conditions (value_at g.vertices store) x) (inputs (value_at g.vertices store) x)
      → IsPut (width_of g.vertices) o.to.start (all_joined vs) store new → HasFired g v cell seen store new
  gives vs lens right put =
      let there : IsPut (width_of g.vertices) (start_of g.vertices v) (all_joined vs) store new = subst (λ n. IsPut (width_of g.vertices) n (all_joined vs) store new) to_start put in
      record {
        len = put.len;
        here = λ y at.
            let same : x ≡ y = (let e : Some x ≡ Some y = sym is ∙ at in cc) in
            put_here g.vertices v x is vs lens store new wide there ∙ right
            ∙ ap (λ (z : Vertex). fired g.bodies z cell seen (conditions (value_at g.vertices store) z) (inputs (value_at g.vertices store) z)) same;
        others = put_others g.vertices v x is vs lens store new wide there;
      }

  abbrev outputs : Values
  outputs = kind_outputs g.bodies x.kind x.outs cell seen (rows_of store o.inputs.items)

  pub fired_active : IsReady g x o cell seen store → guards_hold x.guards (conditions (value_at g.vertices store) x) ≡ true
      → IsPut (width_of g.vertices) o.to.start (joined_outputs g x o cell seen store) store new → HasFired g v cell seen store new
  fired_active ready holds put =
      let rows = input_rows g room v x o op store in
      let look = value_at g.vertices store in
      gives outputs (outputs_long g x o cell seen store ready)
      (ap (kind_outputs g.bodies x.kind x.outs cell seen) rows
      ∙ sym (ap (λ (b : Bool). if b then kind_outputs g.bodies x.kind x.outs cell seen (inputs look x) else map zeros x.outs) holds)) put

  pub fired_zeros : guards_hold x.guards (conditions (value_at g.vertices store) x) ≡ false → IsPut (length store) o.to.start (zeros o.to.len) store new → HasFired g v cell seen store new
  fired_zeros fails put =
      let look = value_at g.vertices store in
      let row : zeros o.to.len ≡ all_joined (map zeros x.outs) = ap (λ (t : Span). zeros t.len) op.to ∙ joined_zeros x.outs in
      gives (map zeros x.outs) (length-zeros x.outs)
      (sym (ap (λ (b : Bool). if b then kind_outputs g.bodies x.kind x.outs cell seen (inputs look x) else map zeros x.outs) fails))
      (put_same (width_of g.vertices) o.to.start (zeros o.to.len) (all_joined (map zeros x.outs)) store new row
      (put_less (length store) (width_of g.vertices) o.to.start (zeros o.to.len) store new wide put))
