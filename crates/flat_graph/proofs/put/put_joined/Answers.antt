use Rattle.std.proofs.Common.{◌≡◌, ◌+◌, ◌≤◌, ℕ, List, [], ◌∷◌, ◌++◌, map, length, take, drop, ap, sym, arith, ◌∙◌, length-append, length-drop}
use Rattle.std.specs.Prelude.{slice_index_or, slice_set, sum}
use Rattle.std.proofs.lemmas.List.{drop_all, append-nil}
use Rattle.level_meaning.specs.Level.{all_joined}
use Rattle.flat_graph.specs.Put.{over}
use Rattle.flat_graph.proofs.KindLens.{length-vector_at}
use Rattle.flat_graph.proofs.Fill.{within_sum, joined_more, first_joined, over_behind}
use Rattle.flat_graph.proofs.put.put_joined.Goals as goal
use Rattle.syn_base.specs.Vectors.{Vector, Values, vector_at}

-- the only output has the length of all that is joined
whole_len : (outs : Values) (n : ℕ) → map length outs ≡ n ∷ [] → length (vector_at outs 0) ≡ n
whole_len outs n e = length-vector_at outs 0 ∙ ap (λ (ns : List ℕ). slice_index_or ns 0 0) e

pub put_over-requires-clause-len : goal.put_over-requires-clause-len
put_over-requires-clause-len c =
    let done = all_joined (take c.loop-port.port c.args.ins.now) in
    let w = vector_at c.args.outs.now 0 in
    let within = within_sum c.args.ins.now c.loop-port.port c.args.count c.loop-port-test.true (omega arith) in
    let whole = whole_len c.args.outs.now (sum (take c.args.count (map length c.args.ins.now))) c.requires.lens in
    let len = ap length c.vector-vector.ensures in
    let at_last = length-append done (drop c.loop-port.from w) in
    rw c.loop-port.invariant.outs (omega (arith, within, whole, len, at_last, length-drop c.loop-port.from w, c.loop-port.invariant.from))

pub put_over-requires-clause-short : goal.put_over-requires-clause-short
put_over-requires-clause-short c =
    let within = within_sum c.args.ins.now c.loop-port.port c.args.count c.loop-port-test.true (omega arith) in
    let len = ap length c.vector-vector.ensures in
    omega (arith, within, len, c.loop-port.invariant.from)

pub overflow_add-from : goal.overflow_add-from
overflow_add-from c =
    let within = within_sum c.args.ins.now c.loop-port.port c.args.count c.loop-port-test.true (omega arith) in
    let len = ap length c.vector-vector.ensures in
    let short : c.loop-port.from + length c.vector-vector.result.now ≤ 64 = omega (arith, within, len, c.loop-port.invariant.from) in
    record { fits = omega (arith, short) }

pub loop-port-preserved : goal.loop-port-preserved
loop-port-preserved c =
    let port = c.loop-port.port in
    let from = c.loop-port.from in
    let v = c.vector-vector.result.now in
    let done = all_joined (take port c.args.ins.now) in
    let w = vector_at c.args.outs.now 0 in
    let more : all_joined (take (port + 1) c.args.ins.now) ≡ done ++ v = joined_more c.args.ins.now port (omega arith) ∙ ap (λ u. done ++ u) (sym c.vector-vector.ensures) in
    record {
      outs =
          c.put_over.ensures
          ∙ ap (λ vs. slice_set vs 0 (over from v (vector_at vs 0))) c.loop-port.invariant.outs
          ∙ ap (λ (u : Vector). u ∷ []) (over_behind done v w from c.loop-port.invariant.from ∙ ap (λ u. u ++ drop (from + length v) w) (sym more));
      from = ap (λ n. n + length v) c.loop-port.invariant.from ∙ sym (ap length more ∙ length-append done v);
    }

pub returns : goal.returns
returns c =
    let count = c.args.count in
    let w = vector_at c.args.outs.now 0 in
    let last : c.loop-port.port ≡ count = omega arith in
    let whole = whole_len c.args.outs.now (sum (take count (map length c.args.ins.now))) c.requires.lens in
    let far : length w ≤ c.loop-port.from =
    omega (arith, whole, first_joined c.args.ins.now count, c.loop-port.invariant.from, ap (λ (n : ℕ). length (all_joined (take n c.args.ins.now))) last) in
    c.loop-port.invariant.outs
    ∙ ap (λ (u : Vector). u ∷ []) ((λ i. all_joined (take (last i) c.args.ins.now) ++ drop_all c.loop-port.from w far i) ∙ append-nil (all_joined (take count c.args.ins.now)))
