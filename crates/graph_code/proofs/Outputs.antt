-- The outputs of a function, whose codes are run one after another.
use Rattle.std.proofs.Common.{◌≡◌, ℕ, zero, suc, ◌+◌, ◌<◌, ◌≤◌, inl, inr, ℤ, pos, List, [], ◌∷◌, ◌++◌, length, get_or, map, take, drop, refl, sym, ap, ap₂, subst, ◌∙◌, arith, length-append}
use Rattle.std.specs.Prelude.{sum}
use Rattle.std.proofs.Math.ListN.{drop_of_length-le}
use Rattle.std.proofs.Math.Seq.{drop-cons}
use Rattle.std.proofs.lemmas.List.{drop-map, length-map, get_or_append_left}
use Rattle.std.proofs.lemmas.List.Sums.{sum_by-cons, sum_by-take-drop}
use Rattle.syn_base.specs.Vectors.{Vector, Values}
use Rattle.flat_graph.specs.Expr.{Expr, index, value_of, vector_of, function_outputs}
use Rattle.flat_graph.specs.Level.{all_joined}
use Rattle.flat_graph.proofs.Fill.{function_at, length-vector_of, element_of}
use Rattle.flat_graph.proofs.KindLens.{function_lens, joined_len}
use Rattle.expression_code.specs.Code.{word, words, size}
use Rattle.expression_code.specs.Compiled.{AreBelow, Carries, GivesValues, Holds, span_at}
use Rattle.expression_code.specs.declared.step.Span.{Span}
use Rattle.expression_code.proofs.Runs.{word_known, same_word, words_known}
use Rattle.graph_code.specs.declared.operation.Output.{Output}
use Rattle.graph_code.specs.Places.{output_span}
use Rattle.graph_code.specs.Compiled.{EachFrom, IsOutput, IsOutputAt}
use Rattle.graph_code.specs.Fired.{AreApart, HasPut, HavePut, IsPut}
use Rattle.graph_code.proofs.Words.{same_words, words_are}
use Rattle.graph_code.proofs.Writing.{put_more, put_none, put_same}
use Rattle.graph_code.proofs.Tables.{part_inside}

-- one output more
sum_more : (outs : List ℕ) (n : ℕ) → n < length outs → sum (take (suc n) outs) ≡ sum (take n outs) + get_or outs n 0
sum_more [] n h = absurd (omega arith)
sum_more (len ∷ outs) zero h = omega (arith, sum_by-cons (λ x. x) len [])
sum_more (len ∷ outs) (suc n) h =
    omega (arith, sum_more outs n (omega arith), sum_by-cons (λ x. x) len (take (suc n) outs), sum_by-cons (λ x. x) len (take n outs))

-- the run of an output's code over the first words of the store, and then the copy of its values
module _ (o : Output) (n : ℕ) (old part new : List ℤ) (end : n ≡ size o.code) (count : length part ≡ n) (fits : n ≤ length old) (room : o.at + o.to.len ≤ size o.code)
    (same : take o.code.from part ≡ take o.code.from (take n old)) (gives : GivesValues o.code (take n old) part) where
  abbrev mid : List ℤ
  mid = part ++ drop n old

  word_mid : (k : ℕ) → k < n → word mid k ≡ word part k
  word_mid k h = get_or_append_left part (drop n old) (pos 0) k (omega (arith, count))

  pub has_put : length mid ≡ length old → IsPut (length mid) o.to.start (words mid o.at o.to.len) mid new → HasPut o old new
  has_put long p = record {
    len = p.len ∙ long;
    put = λ ports width space to e ins is below carries inside wide.
        let from : o.code.from ≡ width = is.code.from in
        let within : width ≤ n = omega (arith, is.code.longer, end) in
        let below_code : AreBelow o.code.from ports = subst (λ m. AreBelow m ports) (sym from) below in
        let carries_part : Carries ports ins (take n old) = λ k h.
        words_known n old (span_at ports k).start (span_at ports k).len (omega (arith, below k h)) ∙ carries k h in
        let holds : Holds part o.at to.len e ins = gives ports to.len (record { from = width; steps = [] }) e o.at ins is.code below_code carries_part in
        let to_len : o.to.len ≡ to.len = ap (λ (t : Span). t.len) is.to_is in
        let to_start : o.to.start ≡ to.start = ap (λ (t : Span). t.start) is.to_is in
        let row : words mid o.at o.to.len ≡ vector_of to.len (value_of e ins) =
        words_are mid (vector_of to.len (value_of e ins)) o.at o.to.len (to_len ∙ sym (length-vector_of to.len (value_of e ins)))
        (omega (arith, room, fits, long, end))
        (λ j h.
        let l : j < to.len = omega (arith, h, length-vector_of to.len (value_of e ins)) in
        word_mid (o.at + j) (omega (arith, room, to_len, end)) ∙ holds j l ∙ sym (element_of to.len (value_of e ins) j l)) in
        let known : (k : ℕ) → k < width → word mid k ≡ word old k = λ k h.
        word_mid k (omega (arith, within)) ∙ same_word o.code.from k part (take n old) (omega (arith, from)) same ∙ word_known n old k (omega (arith, within)) in
        let written = put_same (length mid) o.to.start (words mid o.at o.to.len) (vector_of to.len (value_of e ins)) mid new row p in
        record {
          len = p.len ∙ long;
          here = λ j h. ap (λ m. word new (m + j)) (sym to_start) ∙ written.here j h;
          before = λ k h. written.before k (omega (arith, to_start)) ∙ known k (omega (arith, inside));
          after = λ k h l. written.after k (omega (arith, h, to_start)) (omega (arith, wide, long)) ∙ known k l;
        };
  }

module _ (ports : List Span) (width room start : ℕ) (outs : List ℕ) (body : List Expr) (ins : Values) (below : AreBelow width ports)
    (inside : start + sum outs ≤ width) (apart : AreApart start (sum outs) ports) (longs : length body ≡ length outs) where
  -- the ports keep their vectors where words of the outputs alone are written
  carries_on : (at : ℕ) (row : Vector) (old new : List ℤ) → start ≤ at → at + length row ≤ start + sum outs → width ≤ length old
      → IsPut width at row old new → Carries ports ins old → Carries ports ins new
  carries_on at row old new s e wide p carries k h =
      same_words new old (span_at ports k).start (span_at ports k).len (omega (arith, below k h, p.len)) (omega (arith, below k h))
      (λ j l. elim (apart k h) [
        | inl q ↦ p.before ((span_at ports k).start + j) (omega (arith, q))
        | inr q ↦ p.after ((span_at ports k).start + j) (omega (arith, q)) (omega (arith, below k h))
      ])
      ∙ carries k h

  abbrev all : Values
  all = function_outputs outs body ins

  -- the outputs from number m on
  rest_len : (m : ℕ) → length (all_joined (drop m all)) ≡ sum (drop m outs)
  rest_len m = joined_len (drop m all) ∙ ap sum (sym (drop-map (λ (v : Vector). length v) m all) ∙ ap (drop m) (function_lens outs body ins))

  count_all : length all ≡ length outs
  count_all = sym (length-map all (λ (v : Vector). length v)) ∙ ap (λ (ns : List ℕ). length ns) (function_lens outs body ins)

  pub outputs_put : (os : List Output) (n : ℕ) (old new : List ℤ) → n + length os ≡ length outs → width ≤ length old
      → EachFrom (IsOutputAt ports width room start outs body) n os
      → HavePut os old new → Carries ports ins old
      → IsPut width (start + sum (take n outs)) (all_joined (drop n all)) old new
  outputs_put [] n old new count wide each put carries =
      let none : drop n all ≡ [] = drop_of_length-le all (omega (arith, count, count_all)) in
      put_same width (start + sum (take n outs)) [] (all_joined (drop n all)) old new (ap all_joined (sym none))
      (subst (λ s. IsPut width (start + sum (take n outs)) [] old s) (sym put) (put_none width (start + sum (take n outs)) old))
  outputs_put (o ∷ os) n old new count wide each put carries =
      let l : n < length outs = omega (arith, count) in
      let m : n < length body = omega (arith, longs) in
      let len = get_or outs n 0 in
      let row = vector_of len (value_of (get_or body n index) ins) in
      let row_len : length row ≡ len = length-vector_of len (value_of (get_or body n index) ins) in
      let at = start + sum (take n outs) in
      let next : start + sum (take (suc n) outs) ≡ at + length row = omega (arith, sum_more outs n l, row_len) in
      let ends = part_inside outs n in
      let first : IsPut width at row old put.0 =
      put.1.put ports width room (output_span start outs n) (get_or body n index) ins each.0 below carries (omega (arith, ends)) wide in
      let on = carries_on at row old put.0 (omega arith) (omega (arith, ends, row_len)) wide first carries in
      let later = outputs_put os (suc n) put.0 new (omega (arith, count)) (omega (arith, put.1.len)) each.1 put.2 on in
      let parts = sum_by-take-drop (λ x. x) outs (suc n) in
      let whole : drop n all ≡ row ∷ drop (suc n) all =
      drop-cons all n [] (omega (arith, count_all)) ∙ ap (λ v. v ∷ drop (suc n) all) (function_at outs body ins n index l m) in
      put_same width at (row ++ all_joined (drop (suc n) all)) (all_joined (drop n all)) old new (ap all_joined (sym whole))
      (put_more width at (start + sum (take (suc n) outs)) row (all_joined (drop (suc n) all)) old put.0 new next (omega (arith, parts, rest_len (suc n))) first later)
