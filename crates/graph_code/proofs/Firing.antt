-- What is written for an operation of each kind is what it gives.
use Rattle.std.proofs.Common.{◌≡◌, ℕ, zero, suc, ◌+◌, ◌<◌, ◌≤◌, Bool, true, ◌&&◌, ◌==◌, ℤ, pos, List, [], ◌∷◌, ◌++◌, length, get_or, map, take, drop, refl, sym, ap, ap₂, subst, ◌∙◌, arith, append-nil}
use Rattle.std.specs.Prelude.{Option, None, Some, All, slice_get, sum, nat_le}
use Rattle.std.specs.List.{list_all}
use Rattle.std.proofs.lemmas.Bool.{and_parts, eqb-true, false≢true}
use Rattle.std.proofs.lemmas.List.{get_or-map, length-map, length-drop, take-append-drop}
use Rattle.std.proofs.lemmas.List.Sums.{sum_by-cons}
use Rattle.std.proofs.lemmas.Option.{get_or_from_slice_get}
use Rattle.syn_base.specs.Vectors.{Vector, Values, vector_at}
use Rattle.syn_base.specs.Rows.{cut}
use Rattle.flat_graph.specs.Expr.{Expr, index, function_outputs}
use Rattle.flat_graph.specs.Level.{all_joined, merged, selected}
use Rattle.flat_graph.specs.declared.vertex.Kind.{Kind}
use Rattle.flat_graph.specs.declared.vertex.Kind.TheVariants.{Sensor, Actuator, Function, Constant, Get, Set, Explode, Implode, Merge}
use Rattle.flat_graph.specs.declared.vertex.Vertex.{Vertex}
use Rattle.flat_graph.specs.Graph.{Graph}
use Rattle.flat_graph.specs.Valid.{are_equal, fits, is_body, is_in_equal_parts, is_merge, is_only, ports_below}
use Rattle.flat_graph.specs.Fire.{kind_outputs, kind_seen_len}
use Rattle.flat_graph.proofs.KindLens.{kind_lens, joined_len, only_is, HasSeen, HasCell, selected_le}
use Rattle.expression_code.specs.Code.{words, size}
use Rattle.expression_code.specs.Compiled.{AreBelow, Carries, span_at}
use Rattle.expression_code.specs.declared.step.Span.{Span}
use Rattle.graph_code.specs.declared.operation.Output.{Output}
use Rattle.graph_code.specs.declared.operation.Operation.{Operation}
use Rattle.graph_code.specs.Places.{width_of, output_span}
use Rattle.graph_code.specs.Compiled.{AreOutputs, HasCode, IsOutput, IsOutputAt}
use Rattle.graph_code.specs.Fired.{AreApart, CanRun, HavePut, IsPut, IsReady, joined_outputs, rows_of}
use Rattle.graph_code.proofs.Each.{each_at}
use Rattle.graph_code.proofs.Writing.{put_less, put_none, put_same}
use Rattle.graph_code.proofs.Tables.{part_inside}
use Rattle.graph_code.proofs.Outputs.{outputs_put}

has_seen : (k : Kind) (outs : List ℕ) (seen : Vector) → length seen ≡ kind_seen_len k outs → HasSeen k outs seen
has_seen (Sensor i) outs seen e = e
has_seen _ outs seen e = tt

has_cell : (k : Kind) (cell : Vector) → ((z : Vector) → k ≡ Get z → length cell ≡ length z) → HasCell k cell
has_cell (Get z) cell e = e z refl
has_cell _ cell e = tt

joined-cut : (lens : List ℕ) (row : Vector) → length row ≡ sum lens → all_joined (cut lens row) ≡ row
joined-cut [] [] e = refl
joined-cut [] (z ∷ row) e = absurd (omega arith)
joined-cut (len ∷ lens) row e =
    let whole : sum (len ∷ lens) ≡ len + sum lens = sum_by-cons (λ x. x) len lens in
    ap (λ r. take len row ++ r) (joined-cut lens (drop len row) (omega (arith, length-drop len row))) ∙ take-append-drop len row

body_long : (ins outs : ℕ) (bodies : List (List Expr)) (b : ℕ) (o : Option (List Expr)) → slice_get bodies b ≡ o → is_body ins outs o ≡ true → length (get_or bodies b []) ≡ outs
body_long ins outs bodies b None e h = absurd (false≢true h)
body_long ins outs bodies b (Some es) e h =
    let each = (and_parts (nat_le 1 outs) ((length es == outs) && list_all (ports_below ins) es) h).1 in
    ap (λ (xs : List Expr). length xs) (get_or_from_slice_get bodies b es [] e) ∙ eqb-true (length es) outs (and_parts (length es == outs) (list_all (ports_below ins) es) each).0

pub merge_count : (k : ℕ) (lens outs : List ℕ) → is_merge k lens outs ≡ true → length lens ≡ k + 2
merge_count k [] outs h = absurd (false≢true h)
merge_count k (c ∷ lens) outs h =
    let both = and_parts ((c == 1) && (length lens == k + 1)) (list_all (λ n. is_only n outs) lens) h in
    let many = eqb-true (length lens) (k + 1) (and_parts (c == 1) (length lens == k + 1) both.0).1 in
    omega (arith, many)

-- the input that a merge gives
pub merged_row : (values : List ℤ) (spans : List Span) (store : List ℤ) (first from : Span) (case : ℕ) → length spans ≡ length values + 2 → first ≡ get_or spans 0 (record { start = 0; len = 0 })
    → case ≡ selected values (words store first.start first.len) → from ≡ get_or spans (1 + case) (record { start = 0; len = 0 })
    → words store from.start from.len ≡ merged values (rows_of store spans)
merged_row values spans store first from case count first_is case_is from_is =
    let row : Span → Vector = λ s. words store s.start s.len in
    let none : Span = record { start = 0; len = 0 } in
    let h : 0 < length spans = omega (arith, count) in
    let l : 1 + case < length spans = omega (arith, count, case_is, selected_le values (words store first.start first.len)) in
    let condition : words store first.start first.len ≡ vector_at (rows_of store spans) 0 = ap row first_is ∙ sym (get_or-map row spans 0 none [] h) in
    let number : 1 + case ≡ suc (selected values (vector_at (rows_of store spans) 0)) =
    (let n : 1 + case ≡ suc case = omega arith in n) ∙ ap suc (case_is ∙ ap (selected values) condition) in
    ap row from_is ∙ sym (get_or-map row spans (1 + case) none [] l) ∙ ap (vector_at (rows_of store spans)) number

pub case_there : (values : List ℤ) (row : Vector) (case count : ℕ) → count ≡ length values + 2 → case ≡ selected values row → 1 + case < count
case_there values row case count is case_is = omega (arith, is, case_is, selected_le values row)

-- all outputs of a function can be run
pub can_run_all : (ports : List Span) (width room start : ℕ) (outs : List ℕ) (body : List Expr) (os : List Output)
    → AreOutputs ports width room start outs body os → start + sum outs ≤ width → width ≤ room → All (CanRun room) os
can_run_all ports width room start outs body os are inside wide k d h =
    let is : IsOutput ports width room (output_span start outs (0 + k)) (get_or body (0 + k) index) (get_or os k d) = each_at (IsOutputAt ports width room start outs body) 0 os k d h are.each in
    let to_len : (get_or os k d).to.len ≡ get_or outs (0 + k) 0 = ap (λ (t : Span). t.len) is.to_is in
    let to_start : (get_or os k d).to.start ≡ start + sum (take (0 + k) outs) = ap (λ (t : Span). t.start) is.to_is in
    record {
      code = is.fits;
      at = omega (arith, is.code.room, to_len);
      to = omega (arith, to_len, to_start, part_inside outs (0 + k));
    }

module _ (g : Graph) (x : Vertex) (o : Operation) (cell seen : Vector) (store : List ℤ) (r : IsReady g x o cell seen store) where
  abbrev ins : Values
  ins = rows_of store o.inputs.items

  count : length ins ≡ length o.inputs.items
  count = length-map o.inputs.items (λ (s : Span). words store s.start s.len)

  pub outputs_long : map (λ v. length v) (kind_outputs g.bodies x.kind x.outs cell seen ins) ≡ x.outs
  outputs_long = kind_lens g.bodies x.kind x.outs cell seen ins r.form (has_seen x.kind x.outs seen r.seen_len) (has_cell x.kind cell r.cell_len)

  joined_long : length (joined_outputs g x o cell seen store) ≡ o.to.len
  joined_long = joined_len (kind_outputs g.bodies x.kind x.outs cell seen ins) ∙ ap sum outputs_long ∙ sym r.to_len

  -- an operation of one output
  pub only_len : (row : Vector) → kind_outputs g.bodies x.kind x.outs cell seen ins ≡ row ∷ [] → length row ≡ o.to.len
  only_len row e = ap (λ (v : Vector). length v) (sym (append-nil row) ∙ sym (ap all_joined e)) ∙ joined_long

  pub only_fits : (row : Vector) → kind_outputs g.bodies x.kind x.outs cell seen ins ≡ row ∷ [] → o.to.start + length row ≤ length store
  only_fits row e = omega (arith, only_len row e, r.to_fits, r.fits)

  pub only_put : (row : Vector) (new : List ℤ) → kind_outputs g.bodies x.kind x.outs cell seen ins ≡ row ∷ [] → IsPut (length store) o.to.start row store new
      → IsPut (width_of g.vertices) o.to.start (joined_outputs g x o cell seen store) store new
  only_put row new e p =
      put_same (width_of g.vertices) o.to.start row (joined_outputs g x o cell seen store) store new (sym (append-nil row) ∙ sym (ap all_joined e))
      (put_less (length store) (width_of g.vertices) o.to.start row store new r.fits p)

  -- one without outputs
  pub none_put : kind_outputs g.bodies x.kind x.outs cell seen ins ≡ [] → IsPut (width_of g.vertices) o.to.start (joined_outputs g x o cell seen store) store store
  none_put e = put_same (width_of g.vertices) o.to.start [] (joined_outputs g x o cell seen store) store store (sym (ap all_joined e)) (put_none (width_of g.vertices) o.to.start store)

  -- what takes its input apart, and what puts its inputs together, gives its inputs one after another
  pub explode_is : x.kind ≡ Explode → all_joined ins ≡ joined_outputs g x o cell seen store
  explode_is kind =
      let lens : List ℕ = map (λ v. length v) ins in
      let form : is_in_equal_parts lens x.outs ≡ true = ap (λ k. fits g.bodies k lens x.outs) (sym kind) ∙ r.form in
      let only = only_is (sum x.outs) lens (and_parts (is_only (sum x.outs) lens) (are_equal x.outs) form).0 in
      one ins x.outs only ∙ sym (ap (λ k. all_joined (kind_outputs g.bodies k x.outs cell seen ins)) kind)
    where
      one : (vs : Values) (outs : List ℕ) → map (λ v. length v) vs ≡ sum outs ∷ [] → all_joined vs ≡ all_joined (cut outs (vector_at vs 0))
      one [] outs e = absurd (cc)
      one (v ∷ []) outs e = append-nil v ∙ sym (joined-cut outs v (ap (λ ns. get_or ns 0 0) e))
      one (v ∷ w ∷ vs) outs e = absurd (let many = ap (λ (ns : List ℕ). length ns) e in omega (arith, many))

  pub implode_is : x.kind ≡ Implode → all_joined ins ≡ joined_outputs g x o cell seen store
  implode_is kind = sym (append-nil (all_joined ins)) ∙ sym (ap (λ k. all_joined (kind_outputs g.bodies k x.outs cell seen ins)) kind)

  pub joined_fits : all_joined ins ≡ joined_outputs g x o cell seen store → o.to.start + length (all_joined ins) ≤ length store
  joined_fits e = omega (arith, ap (λ (v : Vector). length v) e, joined_long, r.to_fits, r.fits)

  pub joined_apart : all_joined ins ≡ joined_outputs g x o cell seen store → AreApart o.to.start (length (all_joined ins)) o.inputs.items
  joined_apart e = subst (λ n. AreApart o.to.start n o.inputs.items) (sym (ap (λ (v : Vector). length v) e ∙ joined_long)) r.apart

  pub joined_put : (new : List ℤ) → all_joined ins ≡ joined_outputs g x o cell seen store → IsPut (length store) o.to.start (all_joined ins) store new
      → IsPut (width_of g.vertices) o.to.start (joined_outputs g x o cell seen store) store new
  joined_put new e p =
      put_same (width_of g.vertices) o.to.start (all_joined ins) (joined_outputs g x o cell seen store) store new e
      (put_less (length store) (width_of g.vertices) o.to.start (all_joined ins) store new r.fits p)

  pub all_below : AreBelow (length store) o.inputs.items
  all_below k h = omega (arith, r.below k h, r.fits)

  -- a merge has a first input, and one for each case
  pub cases_are : (values : List ℤ) → x.kind ≡ Merge values → length o.inputs.items ≡ length values + 2
  cases_are values kind =
      let form : is_merge (length values) (map (λ v. length v) ins) x.outs ≡ true = ap (λ k. fits g.bodies k (map (λ v. length v) ins) x.outs) (sym kind) ∙ r.form in
      omega (arith, count, length-map ins (λ (v : Vector). length v), merge_count (length values) (map (λ v. length v) ins) x.outs form)

  -- the outputs of a function
  module _ (b : ℕ) (kind : x.kind ≡ Function b) where
    codes_are : AreOutputs o.inputs.items (width_of g.vertices) (length store) o.to.start x.outs (get_or g.bodies b []) o.outputs.items
    codes_are = subst (λ k. HasCode g (length store) x k o.inputs.items o.to.start o.outputs.items) kind r.code

    outs_fit : o.to.start + sum x.outs ≤ width_of g.vertices
    outs_fit = omega (arith, r.to_len, r.to_fits)

    pub can_run : All (CanRun (length store)) o.outputs.items
    can_run = can_run_all o.inputs.items (width_of g.vertices) (length store) o.to.start x.outs (get_or g.bodies b []) o.outputs.items codes_are outs_fit r.fits

    pub function_put : (new : List ℤ) → HavePut o.outputs.items store new → IsPut (width_of g.vertices) o.to.start (joined_outputs g x o cell seen store) store new
    function_put new put =
        let form : is_body (length (map (λ v. length v) ins)) (length x.outs) (slice_get g.bodies b) ≡ true = ap (λ k. fits g.bodies k (map (λ v. length v) ins) x.outs) (sym kind) ∙ r.form in
        let longs : length (get_or g.bodies b []) ≡ length x.outs = body_long (length (map (λ v. length v) ins)) (length x.outs) g.bodies b (slice_get g.bodies b) refl form in
        let apart : AreApart o.to.start (sum x.outs) o.inputs.items = subst (λ n. AreApart o.to.start n o.inputs.items) r.to_len r.apart in
        let carries : Carries o.inputs.items ins store = λ k h. sym (get_or-map (λ (s : Span). words store s.start s.len) o.inputs.items k (record { start = 0; len = 0 }) [] h) in
        let put_all = outputs_put o.inputs.items (width_of g.vertices) (length store) o.to.start x.outs (get_or g.bodies b []) ins r.below outs_fit apart longs
        o.outputs.items 0 store new (let many = codes_are.count in omega (arith, many)) r.fits codes_are.each put carries in
        let place : o.to.start + sum (take 0 x.outs) ≡ o.to.start = omega arith in
        put_same (width_of g.vertices) o.to.start (all_joined (function_outputs x.outs (get_or g.bodies b []) ins)) (joined_outputs g x o cell seen store) store new
        (sym (ap (λ k. all_joined (kind_outputs g.bodies k x.outs cell seen ins)) kind))
        (subst (λ n. IsPut (width_of g.vertices) n (all_joined (function_outputs x.outs (get_or g.bodies b []) ins)) store new) place put_all)
