-- The words of spans, written one after another.
use Rattle.std.proofs.Common.{◌≡◌, ℕ, zero, suc, ◌+◌, ◌<◌, ◌≤◌, inl, inr, ℤ, pos, List, [], ◌∷◌, ◌++◌, length, get_or, map, take, drop, refl, sym, ap, ap₂, subst, ◌∙◌, arith, length-append}
use Rattle.std.specs.Prelude.{◌⊎◌}
use Rattle.std.proofs.lemmas.List.{get_or-map, length-map}
use Rattle.syn_base.specs.Vectors.{Vector, Values, vector_at}
use Rattle.flat_graph.specs.Level.{all_joined}
use Rattle.flat_graph.proofs.Fill.{joined_more}
use Rattle.expression_code.specs.Code.{word, words}
use Rattle.expression_code.specs.Compiled.{AreBelow, span_at}
use Rattle.expression_code.specs.declared.step.Span.{Span}
use Rattle.graph_code.specs.Fired.{AreApart, IsPut, rows_of}
use Rattle.graph_code.proofs.Words.{same_words, words_len}
use Rattle.graph_code.proofs.Writing.{put_less, put_more, put_same}

-- the first vectors are no longer than all
part_le : (vs : Values) (n : ℕ) → length (all_joined (take n vs)) ≤ length (all_joined vs)
part_le vs zero = omega arith
part_le [] (suc n) = omega arith
part_le (v ∷ vs) (suc n) = omega (arith, part_le vs n, length-append v (all_joined (take n vs)), length-append v (all_joined vs))

module _ (start : ℕ) (spans : List Span) (first store new : List ℤ) (i at : ℕ) (span : Span) (h : i < length spans) (is : span ≡ get_or spans i (record { start = 0; len = 0 }))
    (below : AreBelow (length first) spans) (room : start + length (all_joined (rows_of first spans)) ≤ length first)
    (apart : AreApart start (length (all_joined (rows_of first spans))) spans)
    (place : at ≡ start + length (all_joined (take i (rows_of first spans))))
    (so_far : IsPut (length first) start (all_joined (take i (rows_of first spans))) first store) where
  inside : span.start + span.len ≤ length first
  inside = subst (λ (s : Span). s.start + s.len ≤ length first) (sym is) (below i h)

  -- the words of the span are as before
  row_is : words store span.start span.len ≡ vector_at (rows_of first spans) i
  row_is =
      let so : (span.start + span.len ≤ start) ⊎ (start + length (all_joined (rows_of first spans)) ≤ span.start) =
      subst (λ (s : Span). (s.start + s.len ≤ start) ⊎ (start + length (all_joined (rows_of first spans)) ≤ s.start)) (sym is) (apart i h) in
      same_words store first span.start span.len (omega (arith, inside, so_far.len)) inside
      (λ j l. elim so [
        | inl q ↦ so_far.before (span.start + j) (omega (arith, q))
        | inr q ↦ so_far.after (span.start + j) (omega (arith, q, part_le (rows_of first spans) i)) (omega (arith, inside))
      ])
      ∙ ap (λ (s : Span). words first s.start s.len) is
      ∙ sym (get_or-map (λ (s : Span). words first s.start s.len) spans i (record { start = 0; len = 0 }) [] h)

  row_len : length (words store span.start span.len) ≡ span.len
  row_len = words_len store span.start span.len (omega (arith, inside, so_far.len))

  count : length (rows_of first spans) ≡ length spans
  count = length-map spans (λ (s : Span). words first s.start s.len)

  more : all_joined (take (i + 1) (rows_of first spans)) ≡ all_joined (take i (rows_of first spans)) ++ words store span.start span.len
  more = joined_more (rows_of first spans) i (omega (arith, h, count)) ∙ ap (λ v. all_joined (take i (rows_of first spans)) ++ v) (sym row_is)

  pub next_place : at + span.len ≡ start + length (all_joined (take (i + 1) (rows_of first spans)))
  next_place =
      let long = ap (λ (v : Vector). length v) more in
      omega (arith, place, row_len, long, length-append (all_joined (take i (rows_of first spans))) (words store span.start span.len))

  pub next_inside : at + span.len ≤ length first
  next_inside = omega (arith, next_place, room, part_le (rows_of first spans) (i + 1))

  pub next_put : IsPut (length store) at (words store span.start span.len) store new
      → IsPut (length first) start (all_joined (take (i + 1) (rows_of first spans))) first new
  next_put p =
      put_same (length first) start (all_joined (take i (rows_of first spans)) ++ words store span.start span.len) (all_joined (take (i + 1) (rows_of first spans))) first new (sym more)
      (put_more (length first) start at (all_joined (take i (rows_of first spans))) (words store span.start span.len) first store new place
      (omega (arith, row_len, next_inside)) so_far (put_less (length store) (length first) at (words store span.start span.len) store new (omega (arith, so_far.len)) p))
