-- The codes of outputs and operations, as they are made one after another.
use Rattle.std.proofs.Common.{
  ◌≡◌,
  ℕ,
  zero,
  suc,
  ◌+◌,
  ◌<◌,
  ◌≤◌,
  true,
  ◌&&◌,
  ◌==◌,
  List,
  [],
  ◌∷◌,
  ◌++◌,
  length,
  get_or,
  map,
  take,
  drop,
  refl,
  sym,
  ap,
  subst,
  ◌∙◌,
  arith,
  add-zero,
  zero-add,
  add-one,
  append_assoc,
  length-append,
}
use Rattle.std.specs.Prelude.{Option, None, Some, Result, Ok, Err, IfOk, IsTrue, All, slice_get, sum, nat_le}
use Rattle.std.specs.List.{list_all}
use Rattle.std.proofs.Math.Seq.{drop-cons}
use Rattle.std.proofs.lemmas.Bool.{and_parts, eqb-true, false≢true}
use Rattle.std.proofs.lemmas.List.{get_or-map, length-map}
use Rattle.std.proofs.lemmas.List.Sums.{AllPass-from_list_all}
use Rattle.flat_graph.specs.Expr.{Expr, view, index, PortsBelow}
use Rattle.body_lang.specs.declared.expression.Expr as declared
use Rattle.flat_graph.specs.declared.vertex.Source.{Source}
use Rattle.flat_graph.specs.declared.vertex.Kind.{Kind}
use Rattle.flat_graph.specs.declared.vertex.Kind.TheVariants.{Function}
use Rattle.flat_graph.specs.declared.vertex.Vertex.{Vertex}
use Rattle.flat_graph.specs.Graph.{Graph, with_vertex, len_of, lens_of}
use Rattle.flat_graph.specs.Valid.{fits, is_body, is_flat, ports_below}
use Rattle.std.proofs.lemmas.Option.{get_or_from_slice_get, slice_get_past}
use Rattle.flat_graph.proofs.Bodies.{ports_are_below}
use Rattle.flat_graph.proofs.Facts.{fits_of, vertex_valid}
use Rattle.flat_graph.proofs.Firing.{body_at, body_there}
use Rattle.expression_code.specs.Compiled.{AreBelow, span_at}
use Rattle.expression_code.specs.declared.step.Span.{Span}
use Rattle.graph_code.specs.declared.operation.Output.{Output}
use Rattle.graph_code.specs.declared.operation.Operation.{Operation}
use Rattle.graph_code.specs.Places.{output_span, span_of, starts_from, start_of, width_of}
use Rattle.graph_code.specs.Compiled.{AreInputs, AreOutputs, EachFrom, HasCode, HasCodeAt, IsOperation, IsOperationAt, IsOutput, IsOutputAt}
use Rattle.graph_code.proofs.Each.{each_map, each_more}
use Rattle.graph_code.proofs.Tables.{span_below}

-- where the outputs of operation v begin
starts_at : (at : ℕ) (xs : List Vertex) (v d : ℕ) → v < length xs → get_or (starts_from at xs) v d ≡ at + start_of xs v
starts_at at [] v d h = absurd (omega arith)
starts_at at (x ∷ xs) zero d h = omega arith
starts_at at (x ∷ xs) (suc v) d h = starts_at (at + sum x.outs) xs v d (omega arith) ∙ (let e : at + sum x.outs + start_of xs v ≡ at + (sum x.outs + start_of xs v) = omega arith in e)

pub start_there : (xs : List Vertex) (starts : List ℕ) (v d : ℕ) → starts ≡ starts_from 0 xs → v < length xs → get_or starts v d ≡ start_of xs v
start_there xs starts v d are h = ap (λ ss. get_or ss v d) are ∙ starts_at 0 xs v d h ∙ zero-add (start_of xs v)

count_from : (at : ℕ) (xs : List Vertex) → length (starts_from at xs) ≡ length xs
count_from at [] = refl
count_from at (x ∷ xs) = ap suc (count_from (at + sum x.outs) xs)

pub start_count : (xs : List Vertex) (starts : List ℕ) → starts ≡ starts_from 0 xs → length starts ≡ length xs
start_count xs starts are = ap (λ (ss : List ℕ). length ss) are ∙ count_from 0 xs

-- one operation more is placed
pub place_more : (xs : List Vertex) (i : ℕ) (x : Vertex) (starts : List ℕ) (width : ℕ) → i < length xs → x ≡ get_or xs i x
    → starts ++ starts_from width (drop i xs) ≡ starts_from 0 xs → (starts ++ width ∷ []) ++ starts_from (width + sum x.outs) (drop (i + 1) xs) ≡ starts_from 0 xs
place_more xs i x starts width h is so_far =
    let split : drop i xs ≡ x ∷ drop (i + 1) xs = drop-cons xs i x h ∙ (λ j. sym is j ∷ drop (sym (add-one i) j) xs) in
    append_assoc starts (width ∷ []) (starts_from (width + sum x.outs) (drop (i + 1) xs)) ∙ ap (λ ys. starts ++ starts_from width ys) (sym split) ∙ so_far

pub width_more : (xs : List Vertex) (i : ℕ) (x : Vertex) (width : ℕ) → i < length xs → x ≡ get_or xs i x
    → width + width_of (drop i xs) ≡ width_of xs → (width + sum x.outs) + width_of (drop (i + 1) xs) ≡ width_of xs
width_more xs i x width h is so_far =
    let split : width_of (drop i xs) ≡ sum x.outs + width_of (drop (i + 1) xs) = ap width_of (drop-cons xs i x h ∙ (λ j. sym is j ∷ drop (sym (add-one i) j) xs)) in
    omega (arith, split, so_far)

-- the spans of sources stand below the width
pub spans_below : (xs : List Vertex) (ss : List Source) → AreBelow (width_of xs) (map (span_of xs) ss)
spans_below xs ss k h =
    let none : Source = record { vertex = 0; port = 0 } in
    let l : k < length ss = omega (arith, h, length-map ss (span_of xs)) in
    subst (λ (t : Span). t.start + t.len ≤ width_of xs) (sym (get_or-map (span_of xs) ss k none (record { start = 0; len = 0 }) l)) (span_below xs (get_or ss k none))

-- the ports of a body are there
pub body_ports : (ins outs : ℕ) (body : List Expr) (es : List declared.Expr) → map view es ≡ body → is_body ins outs (Some body) ≡ true → All (λ e. PortsBelow ins (view e)) es
body_ports ins outs body es are h k d l =
    let each = (and_parts (nat_le 1 outs) ((length body == outs) && list_all (ports_below ins) body) h).1 in
    let fit : list_all (ports_below ins) (map view es)
    ≡ true = subst (λ xs. list_all (ports_below ins) xs ≡ true) (sym are) (and_parts (length body == outs) (list_all (ports_below ins) body) each).1 in
    let here = AllPass-from_list_all (ports_below ins) (map view es) fit k (view d) (omega (arith, l, length-map es view)) in
    ports_are_below ins (view (get_or es k d)) (subst (λ e. ports_below ins e ≡ true) (get_or-map view es k d (view d) l) here)

pub body_count : (ins outs : ℕ) (body : List Expr) (es : List declared.Expr) → map view es ≡ body → is_body ins outs (Some body) ≡ true → length es ≡ outs
body_count ins outs body es are h =
    let each = (and_parts (nat_le 1 outs) ((length body == outs) && list_all (ports_below ins) body) h).1 in
    sym (length-map es view) ∙ ap (λ (xs : List Expr). length xs) are ∙ eqb-true (length body) outs (and_parts (length body == outs) (list_all (ports_below ins) body) each).0

-- what fits in a store fits in a larger one
output_more : (ports : List Span) (width room more : ℕ) (to : Span) (e : Expr) (o : Output) → room ≤ more → IsOutput ports width room to e o → IsOutput ports width more to e o
output_more ports width room more to e o le is = record { to_is = is.to_is; code = is.code; fits = omega (arith, is.fits) }

code_more : (g : Graph) (room more : ℕ) (x : Vertex) (k : Kind) (inputs : List Span) (start : ℕ) (os : List Output) → room ≤ more
    → HasCode g room x k inputs start os → HasCode g more x k inputs start os
code_more g room more x (Function b) inputs start os le h = record {
  count = h.count;
  each = each_map (IsOutputAt inputs (width_of g.vertices) room start x.outs (get_or g.bodies b [])) (IsOutputAt inputs (width_of g.vertices) more start x.outs (get_or g.bodies b []))
      (λ n p is. output_more inputs (width_of g.vertices) room more (output_span start x.outs n) (get_or (get_or g.bodies b []) n index) p le is) 0 os h.each;
}
code_more g room more x _ inputs start os le h = tt

operation_more : (g : Graph) (room more v : ℕ) (o : Operation) → room ≤ more → IsOperationAt g room v o → IsOperationAt g more v o
operation_more g room more v o le at x is =
    let op = at x is in
    record { to = op.to; inputs = op.inputs; conditions = op.conditions; code = code_more g room more x x.kind o.inputs.items o.to.start o.outputs.items le op.code }

-- one output more
pub outputs_more : (ports : List Span) (width room more start : ℕ) (outs : List ℕ) (body : List declared.Expr) (p : ℕ) (e : declared.Expr) (to : Span) (os new : List Output) (o : Output)
    → p < length body → e ≡ get_or body p e → length os ≡ p → room ≤ more → to ≡ output_span start outs p → IsOutput ports width more to (view e) o → new ≡ os ++ o ∷ []
    → EachFrom (IsOutputAt ports width room start outs (map view body)) 0 os
    → EachFrom (IsOutputAt ports width more start outs (map view body)) 0 new
outputs_more ports width room more start outs body p e to os new o h is count le place here push so_far =
    let expression : view e ≡ get_or (map view body) p index = ap view is ∙ sym (get_or-map view body p e index h) in
    let there : IsOutput ports width more (output_span start outs p) (get_or (map view body) p index) o =
    subst (λ t. IsOutput ports width more t (get_or (map view body) p index) o) place (subst (λ f. IsOutput ports width more to f o) expression here) in
    let number : p ≡ 0 + length os = omega (arith, count) in
    let before = each_map (IsOutputAt ports width room start outs (map view body)) (IsOutputAt ports width more start outs (map view body))
    (λ q n old. output_more ports width room more (output_span start outs q) (get_or (map view body) q index) n le old) 0 os so_far in
    subst (λ ns. EachFrom (IsOutputAt ports width more start outs (map view body)) 0 ns) (sym push)
    (each_more (IsOutputAt ports width more start outs (map view body)) 0 os o before
    (subst (λ q. IsOutput ports width more (output_span start outs q) (get_or (map view body) q index) o) number there))

-- one operation more
pub operations_more : (g : Graph) (room more v : ℕ) (os new : List Operation) (o : Operation) → length os ≡ v → room ≤ more → IsOperationAt g more v o → new ≡ os ++ o ∷ []
    → EachFrom (IsOperationAt g room) 0 os → EachFrom (IsOperationAt g more) 0 new
operations_more g room more v os new o count le here push so_far =
    let number : v ≡ 0 + length os = omega (arith, count) in
    let before = each_map (IsOperationAt g room) (IsOperationAt g more) (λ u p old. operation_more g room more u p le old) 0 os so_far in
    subst (λ ns. EachFrom (IsOperationAt g more) 0 ns) (sym push) (each_more (IsOperationAt g more) 0 os o before (subst (λ u. IsOperationAt g more u o) number here))

pub count_more : {A : Type 0} (os new : List A) (o : A) (n : ℕ) → length os ≡ n → new ≡ os ++ o ∷ [] → length new ≡ n + 1
count_more {A} os new o n count push = ap (λ (xs : List A). length xs) push ∙ length-append os (o ∷ []) ∙ ap (λ m. m + 1) count

-- a result that is right for one reason is right for another that follows
pub if_ok : (A E : Type 0) (result : Result A E) (P Q : A → Type 0) → ((a : A) → P a → Q a) → IfOk result P → IfOk result Q
if_ok A E (Ok a) P Q f h = f a h
if_ok A E (Err e) P Q f h = h

-- the span of a source that is there, and of one that is not
pub span_there : (xs : List Vertex) (starts : List ℕ) (s : Source) (x : Vertex) (d : ℕ) → starts ≡ starts_from 0 xs → s.vertex < length xs → slice_get xs s.vertex ≡ Some x
    → output_span (get_or starts s.vertex d) x.outs s.port ≡ span_of xs s
span_there xs starts s x d are h is =
    ap (λ n. output_span n x.outs s.port) (start_there xs starts s.vertex d are h)
    ∙ sym (ap (λ (o : Option Vertex). with_vertex o (record { start = 0; len = 0 }) (λ y. output_span (start_of xs s.vertex) y.outs s.port)) is)

pub span_none : (xs : List Vertex) (s : Source) → length xs ≤ s.vertex → record { start = 0; len = 0 } ≡ span_of xs s
span_none xs s h = sym (ap (λ (o : Option Vertex). with_vertex o (record { start = 0; len = 0 }) (λ y. output_span (start_of xs s.vertex) y.outs s.port)) (slice_get_past xs s.vertex h))

-- the body of a function of a valid graph
module _ (g : Graph) (v : ℕ) (x : Vertex) (b : ℕ) (valid : IsTrue (is_flat g)) (is : slice_get g.vertices v ≡ Some x) (kind : x.kind ≡ Function b) where
  form : is_body (length (lens_of g.vertices x.ins)) (length x.outs) (slice_get g.bodies b) ≡ true
  form = ap (λ k. fits g.bodies k (lens_of g.vertices x.ins) x.outs) (sym kind) ∙ fits_of g v x (vertex_valid g valid v x is)

  pub has_body : b < length g.bodies
  has_body = body_there g.bodies b (length (lens_of g.vertices x.ins)) (length x.outs) form

  module _ (body : List Expr) (same : body ≡ get_or g.bodies b body) (es : List declared.Expr) (are : map view es ≡ body) where
    this : is_body (length (lens_of g.vertices x.ins)) (length x.outs) (Some body) ≡ true
    this = subst (λ (o : Option (List Expr)). is_body (length (lens_of g.vertices x.ins)) (length x.outs) o ≡ true) (body_at g.bodies b body has_body same) form

    pub body_long : length es ≡ length x.outs
    body_long = body_count (length (lens_of g.vertices x.ins)) (length x.outs) body es are this

    pub body_fits : (inputs : List Span) → inputs ≡ map (span_of g.vertices) x.ins → All (λ e. PortsBelow (length inputs) (view e)) es
    body_fits inputs spans =
        let count : length (lens_of g.vertices x.ins) ≡ length inputs =
        length-map x.ins (len_of g.vertices) ∙ sym (ap (λ (ts : List Span). length ts) spans ∙ length-map x.ins (span_of g.vertices)) in
        subst (λ n. All (λ e. PortsBelow n (view e)) es) count (body_ports (length (lens_of g.vertices x.ins)) (length x.outs) body es are this)

    pub body_is : body ≡ get_or g.bodies b []
    body_is = sym (get_or_from_slice_get g.bodies b body [] (body_at g.bodies b body has_body same))

-- the codes of a function's outputs are those of the operation
pub code_for : (g : Graph) (all v : ℕ) (x : Vertex) (b : ℕ) (inputs : List Span) (start width : ℕ) (outs : List ℕ) (body : List Expr) (os : List Output)
    → slice_get g.vertices v ≡ Some x → x.kind ≡ Function b → width ≡ width_of g.vertices → outs ≡ x.outs → body ≡ get_or g.bodies b []
    → AreOutputs inputs width all start outs body os → HasCodeAt g all v inputs start os
code_for g all v x b inputs start width outs body os is kind width_is outs_are body_are are y at =
    let same : x ≡ y = (let e : Some x ≡ Some y = sym is ∙ at in cc) in
    let wide = subst (λ w. AreOutputs inputs w all start outs body os) width_is are in
    let long = subst (λ ns. AreOutputs inputs (width_of g.vertices) all start ns body os) outs_are wide in
    let whole : HasCode g all x (Function b) inputs start os = subst (λ es. AreOutputs inputs (width_of g.vertices) all start x.outs es os) body_are long in
    subst (λ (z : Vertex). HasCode g all z z.kind inputs start os) same (subst (λ k. HasCode g all x k inputs start os) (sym kind) whole)

-- any other operation needs none
pub no_code : (g : Graph) (all v : ℕ) (x : Vertex) (inputs : List Span) (start : ℕ) (os : List Output) → slice_get g.vertices v ≡ Some x
    → ((b : ℕ) → x.kind ≡ Function b → ⊥) → HasCodeAt g all v inputs start os
no_code g all v x inputs start os is other y at =
    let same : x ≡ y = (let e : Some x ≡ Some y = sym is ∙ at in cc) in
    subst (λ (z : Vertex). HasCode g all z z.kind inputs start os) same (by x.kind other)
  where
    by : (k : Kind) → ((b : ℕ) → k ≡ Function b → ⊥) → HasCode g all x k inputs start os
    by (Function b) n = absurd (n b refl)
    by _ n = tt

-- an operation with its spans and codes
pub operation_for : (g : Graph) (all v : ℕ) (x : Vertex) (o : Operation) → slice_get g.vertices v ≡ Some x → o.to ≡ record { start = start_of g.vertices v; len = sum x.outs }
    → o.inputs.items ≡ map (span_of g.vertices) x.ins → o.conditions.items ≡ map (λ c. span_of g.vertices c.source) x.guards
    → HasCodeAt g all v o.inputs.items o.to.start o.outputs.items → IsOperationAt g all v o
operation_for g all v x o is to inputs conditions code y at =
    let same : x ≡ y = (let e : Some x ≡ Some y = sym is ∙ at in cc) in
    subst (λ (z : Vertex). IsOperation g all v z o) same (record { to = to; inputs = inputs; conditions = conditions; code = code x is })

pub inputs_are : (g : Graph) (v : ℕ) (x : Vertex) (spans : List Span) → slice_get g.vertices v ≡ Some x → spans ≡ map (span_of g.vertices) x.ins → AreInputs g v spans
inputs_are g v x spans is are y at =
    let same : x ≡ y = (let e : Some x ≡ Some y = sym is ∙ at in cc) in
    are ∙ ap (λ (z : Vertex). map (span_of g.vertices) z.ins) same
