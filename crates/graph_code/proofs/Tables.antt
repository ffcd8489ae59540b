-- The outputs of operations, as they stand in a store, and what a row that is written changes of them.
use Rattle.std.proofs.Common.{◌≡◌, ◌≢◌, ℕ, zero, suc, ◌+◌, ◌<◌, ◌≤◌, inl, inr, ℤ, pos, List, [], ◌∷◌, length, get_or, map, take, drop, refl, sym, ap, ap₂, ◌∙◌, arith, zero-add}
use Rattle.std.specs.Prelude.{Option, None, Some, slice_get, sum, ◌⊎◌}
use Rattle.std.proofs.lemmas.Bool.{cases_lt}
use Rattle.std.proofs.lemmas.List.{take-take, drop-take, get_or_past, take_all}
use Rattle.std.proofs.lemmas.List.Sums.{sum_by-cons}
use Rattle.std.proofs.Math.Seq.{take-append_seam, drop-append_seam}
use Rattle.syn_base.specs.Vectors.{Vector, Values, vector_at}
use Rattle.syn_base.specs.Rows.{cut}
use Rattle.syn_base.proofs.Cut.{vector-at, vector_inside}
use Rattle.flat_graph.specs.Level.{all_joined}
use Rattle.flat_graph.specs.declared.vertex.Source.{Source}
use Rattle.flat_graph.specs.declared.vertex.Vertex.{Vertex}
use Rattle.flat_graph.specs.Graph.{with_vertex}
use Rattle.flat_graph.proofs.Fill.{length-cut}
use Rattle.flat_graph.proofs.KindLens.{joined_len}
use Rattle.expression_code.specs.Code.{word, words}
use Rattle.expression_code.specs.declared.step.Span.{Span}
use Rattle.graph_code.specs.Places.{width_of, start_of, output_span, span_of, table_of, outputs_at, value_at}
use Rattle.graph_code.specs.Fired.{IsPut}
use Rattle.graph_code.proofs.Words.{words_on, words_within, same_words, words_are}

-- a row is cut by its first words alone
cut_front : (lens : List ℕ) (row : List ℤ) → cut lens row ≡ cut lens (take (sum lens) row)
cut_front [] row = refl
cut_front (len ∷ lens) row =
    let whole : sum (len ∷ lens) ≡ len + sum lens = sum_by-cons (λ x. x) len lens in
    let first : take len (take (sum (len ∷ lens)) row) ≡ take len row = take-take len (sum (len ∷ lens)) row (omega (arith, whole)) in
    let rest : drop len (take (sum (len ∷ lens)) row) ≡ take (sum lens) (drop len row) = ap (λ n. drop len (take n row)) whole ∙ drop-take len (sum lens) row in
    ap₂ (λ a b. a ∷ b) (sym first) (cut_front lens (drop len row) ∙ ap (cut lens) (sym rest))

pub cut-joined : (vs : Values) → cut (map length vs) (all_joined vs) ≡ vs
cut-joined [] = refl
cut-joined (v ∷ vs) = ap₂ (λ a b. a ∷ cut (map length vs) b) (take-append_seam v (all_joined vs)) (drop-append_seam v (all_joined vs)) ∙ ap (λ ws. v ∷ ws) (cut-joined vs)

-- the outputs of an operation are cut from its words
pub outputs_are : (xs : List Vertex) (store : List ℤ) (v : ℕ) (x : Vertex) → slice_get xs v ≡ Some x → outputs_at xs store v ≡ cut x.outs (words store (start_of xs v) (sum x.outs))
outputs_are [] store v x e = absurd (cc)
outputs_are (y ∷ ys) store zero x e = let same : y ≡ x = cc in ap (λ (z : Vertex). cut z.outs store) same ∙ cut_front x.outs store
outputs_are (y ∷ ys) store (suc v) x e = outputs_are ys (drop (sum y.outs) store) v x e ∙ ap (cut x.outs) (words_on store (sum y.outs) (start_of ys v) (sum x.outs))

pub outputs_none : (xs : List Vertex) (store : List ℤ) (v : ℕ) → slice_get xs v ≡ None → outputs_at xs store v ≡ []
outputs_none [] store v e = refl
outputs_none (y ∷ ys) store zero e = absurd (cc)
outputs_none (y ∷ ys) store (suc v) e = outputs_none ys (drop (sum y.outs) store) v e

-- the words of an operation stand below the width
pub inside : (xs : List Vertex) (v : ℕ) (x : Vertex) → slice_get xs v ≡ Some x → start_of xs v + sum x.outs ≤ width_of xs
inside [] v x e = absurd (cc)
inside (y ∷ ys) zero x e = let same : sum y.outs ≡ sum x.outs = (let is : y ≡ x = cc in ap (λ (z : Vertex). sum z.outs) is) in omega (arith, same)
inside (y ∷ ys) (suc v) x e = omega (arith, inside ys v x e)

-- the words of an earlier operation stand before those of a later one
pub earlier : (xs : List Vertex) (u v : ℕ) (y : Vertex) → slice_get xs u ≡ Some y → u < v → start_of xs u + sum y.outs ≤ start_of xs v
earlier [] u v y e h = absurd (cc)
earlier (z ∷ zs) zero zero y e h = absurd (omega arith)
earlier (z ∷ zs) zero (suc v) y e h = let same : sum z.outs ≡ sum y.outs = (let is : z ≡ y = cc in ap (λ (w : Vertex). sum w.outs) is) in omega (arith, same)
earlier (z ∷ zs) (suc u) zero y e h = absurd (omega arith)
earlier (z ∷ zs) (suc u) (suc v) y e h = omega (arith, earlier zs u v y e (omega arith))

-- so the words of two operations have none in common
pub apart : (xs : List Vertex) (u v : ℕ) (y x : Vertex) → slice_get xs u ≡ Some y → slice_get xs v ≡ Some x → u ≢ v
    → (start_of xs u + sum y.outs ≤ start_of xs v) ⊎ (start_of xs v + sum x.outs ≤ start_of xs u)
apart xs u v y x e f ne = elim (cases_lt u v) [
  | inl h ↦ inl (earlier xs u v y e h)
  | inr h ↦ inr (earlier xs v u x f (omega (arith, ne, h)))
]

-- an output is a part of the words of its operation
pub part_inside : (outs : List ℕ) (p : ℕ) → sum (take p outs) + get_or outs p 0 ≤ sum outs
part_inside outs p = elim (cases_lt p (length outs)) [
  | inl h ↦ vector_inside outs p h
  | inr h ↦ omega (arith, get_or_past outs p 0 h, ap sum (take_all p outs h))
]

part_is : (outs : List ℕ) (store : List ℤ) (start p : ℕ) → vector_at (cut outs (words store start (sum outs))) p ≡ words store (start + sum (take p outs)) (get_or outs p 0)
part_is outs store start p = elim (cases_lt p (length outs)) [
  | inl h ↦ vector-at outs (words store start (sum outs)) p h ∙ words_within store start (sum outs) (sum (take p outs)) (get_or outs p 0) (part_inside outs p)
  | inr h ↦ get_or_past (cut outs (words store start (sum outs))) p [] (omega (arith, length-cut outs (words store start (sum outs))))
      ∙ ap (words store (start + sum (take p outs))) (sym (get_or_past outs p 0 h))
]

-- the value of a source is the words of its span
pub value_is : (xs : List Vertex) (store : List ℤ) (s : Source) → value_at xs store s ≡ words store (span_of xs s).start (span_of xs s).len
value_is xs store s = by (slice_get xs s.vertex) refl
  where
    by : (o : Option Vertex) → slice_get xs s.vertex ≡ o → value_at xs store s
        ≡ words store (with_vertex o (record { start = 0; len = 0 }) (λ x. output_span (start_of xs s.vertex) x.outs s.port)).start
        (with_vertex o (record { start = 0; len = 0 }) (λ x. output_span (start_of xs s.vertex) x.outs s.port)).len
    by None e = ap (λ vs. vector_at vs s.port) (outputs_none xs store s.vertex e)
    by (Some x) e = ap (λ vs. vector_at vs s.port) (outputs_are xs store s.vertex x e) ∙ part_is x.outs store (start_of xs s.vertex) s.port

-- a span stands below the width
pub span_below : (xs : List Vertex) (s : Source) → (span_of xs s).start + (span_of xs s).len ≤ width_of xs
span_below xs s = by (slice_get xs s.vertex) refl
  where
    by : (o : Option Vertex) → slice_get xs s.vertex ≡ o
        → (with_vertex o (record { start = 0; len = 0 }) (λ x. output_span (start_of xs s.vertex) x.outs s.port)).start
        + (with_vertex o (record { start = 0; len = 0 }) (λ x. output_span (start_of xs s.vertex) x.outs s.port)).len ≤ width_of xs
    by None e = omega arith
    by (Some x) e = omega (arith, inside xs s.vertex x e, part_inside x.outs s.port)

-- the span of a source has no word of another operation
pub span_apart : (xs : List Vertex) (s : Source) (v : ℕ) (x : Vertex) → slice_get xs v ≡ Some x → s.vertex ≢ v
    → ((span_of xs s).start + (span_of xs s).len ≤ start_of xs v) ⊎ (start_of xs v + sum x.outs ≤ (span_of xs s).start)
span_apart xs s v x f ne = by (slice_get xs s.vertex) refl
  where
    by : (o : Option Vertex) → slice_get xs s.vertex ≡ o
        → ((with_vertex o (record { start = 0; len = 0 }) (λ y. output_span (start_of xs s.vertex) y.outs s.port)).start
        + (with_vertex o (record { start = 0; len = 0 }) (λ y. output_span (start_of xs s.vertex) y.outs s.port)).len ≤ start_of xs v)
        ⊎ (start_of xs v + sum x.outs ≤ (with_vertex o (record { start = 0; len = 0 }) (λ y. output_span (start_of xs s.vertex) y.outs s.port)).start)
    by None e = inl (omega arith)
    by (Some y) e = elim (apart xs s.vertex v y x e f ne) [
      | inl h ↦ inl (omega (arith, h, part_inside y.outs s.port))
      | inr h ↦ inr (omega (arith, h))
    ]

-- what a row that is written over the words of an operation changes
module _ (xs : List Vertex) (v : ℕ) (x : Vertex) (is : slice_get xs v ≡ Some x) (vs : Values) (lens : map length vs ≡ x.outs) (old new : List ℤ)
    (room : width_of xs ≤ length old) (put : IsPut (width_of xs) (start_of xs v) (all_joined vs) old new) where
  long : length (all_joined vs) ≡ sum x.outs
  long = joined_len vs ∙ ap sum lens

  -- the operation gives what was written
  pub put_here : outputs_at xs new v ≡ vs
  put_here =
      let row : words new (start_of xs v) (sum x.outs) ≡ all_joined vs =
      words_are new (all_joined vs) (start_of xs v) (sum x.outs) (sym long) (omega (arith, inside xs v x is, put.len)) put.here in
      outputs_are xs new v x is ∙ ap₂ cut (sym lens) row ∙ cut-joined vs

  -- and any other what it gave
  pub put_others : (u : ℕ) → u ≢ v → outputs_at xs new u ≡ outputs_at xs old u
  put_others u ne = by (slice_get xs u) refl
    where
      by : (o : Option Vertex) → slice_get xs u ≡ o → outputs_at xs new u ≡ outputs_at xs old u
      by None e = outputs_none xs new u e ∙ sym (outputs_none xs old u e)
      by (Some y) e =
          let within = inside xs u y e in
          outputs_are xs new u y e
          ∙ ap (cut y.outs) (same_words new old (start_of xs u) (sum y.outs) (omega (arith, within, put.len)) (omega (arith, within))
          (λ j l. elim (apart xs u v y x e is ne) [
            | inl h ↦ put.before (start_of xs u + j) (omega (arith, h))
            | inr h ↦ put.after (start_of xs u + j) (omega (arith, h, long)) (omega (arith, within))
          ]))
          ∙ sym (outputs_are xs old u y e)
