use Rattle.std.proofs.Common.{◌≡◌, ℕ, ◌+◌, ◌-◌, [], length, take, drop, ap, sym, arith, ◌∙◌, length-take, length-drop}
use Rattle.std.specs.Prelude.{slice_index_or, slice_set}
use Rattle.std.proofs.lemmas.List.Sums.{sum_by_more, sum_by_more_le}
use Rattle.flat_graph.proofs.Fill.{fill, in_front, all_written, len_at_seam, count_of_lens, length-cut, part_at}
use Rattle.flat_graph.proofs.put.put_parts.Goals as goal
use Rattle.syn_base.specs.Rows.{cut}

pub set_vector-requires-clause-port : goal.set_vector-requires-clause-port
set_vector-requires-clause-port c =
    let long = count_of_lens c.args.outs.now c.args.lens.now c.requires.lens in
    let many = length-cut c.args.lens.now c.args.whole.now in
    rw c.loop-port.invariant.outs (in_front (cut c.args.lens.now c.args.whole.now) c.args.outs.now c.loop-port.port (omega arith) (omega arith))

pub set_vector-requires-clause-len : goal.set_vector-requires-clause-len
set_vector-requires-clause-len c =
    let port = c.loop-port.port in
    let n = slice_index_or c.args.lens.now port 0 in
    let many = length-cut c.args.lens.now c.args.whole.now in
    let there = sum_by_more_le (λ (x : ℕ). x) c.args.lens.now port 0 c.loop-port-test.true in
    let from = c.loop-port.from in
    let part : length (take (from + n - from) (drop from c.args.whole.now)) ≡ n =
    omega (arith, there, c.loop-port.invariant.from, length-take (from + n - from) (drop from c.args.whole.now), length-drop from c.args.whole.now) in
    let place : length (slice_index_or c.loop-port.outs port []) ≡ n =
    rw c.loop-port.invariant.outs (len_at_seam (cut c.args.lens.now c.args.whole.now) c.args.outs.now c.args.lens.now port (omega arith) c.loop-port-test.true c.requires.lens) in
    part ∙ sym place

pub loop-port-preserved : goal.loop-port-preserved
loop-port-preserved c =
    let port = c.loop-port.port in
    let n = slice_index_or c.args.lens.now port 0 in
    let from = c.loop-port.from in
    let long = count_of_lens c.args.outs.now c.args.lens.now c.requires.lens in
    let many = length-cut c.args.lens.now c.args.whole.now in
    let part = take (from + n - from) (drop from c.args.whole.now) in
    let is_part : part ≡ slice_index_or (cut c.args.lens.now c.args.whole.now) port [] =
    ap (λ (k : ℕ). take k (drop from c.args.whole.now)) (let e : from + n - from ≡ n = omega arith in e)
    ∙ ap (λ (k : ℕ). take n (drop k c.args.whole.now)) c.loop-port.invariant.from
    ∙ sym (part_at c.args.lens.now c.args.whole.now port c.loop-port-test.true) in
    record {
      outs =
          c.set_vector.ensures
          ∙ ap (λ vs. slice_set vs port part) c.loop-port.invariant.outs
          ∙ fill (cut c.args.lens.now c.args.whole.now) c.args.outs.now port [] part (omega arith) (omega arith) is_part;
      from = ap (λ (k : ℕ). k + n) c.loop-port.invariant.from ∙ sym (sum_by_more (λ (x : ℕ). x) c.args.lens.now port 0 c.loop-port-test.true);
    }

pub returns : goal.returns
returns c =
    let long = count_of_lens c.args.outs.now c.args.lens.now c.requires.lens in
    let many = length-cut c.args.lens.now c.args.whole.now in
    c.loop-port.invariant.outs ∙ all_written (cut c.args.lens.now c.args.whole.now) c.args.outs.now c.loop-port.port (omega arith) (omega arith)
