use Rattle.std.proofs.Common.{◌+◌, ◌<◌, ◌≤◌, List, length, arith, sym, ap}
use Rattle.executive_program.specs.declared.program.Buffer.{Buffer}
use Rattle.executive_program.specs.Instructions.{readers_from}
use Rattle.program_walks.proofs.Walked.{fits, right_more, many_more, one_fails}
use Rattle.program_walks.proofs.guarding.are_guarded.Goals as goal

pub returns-then-not-guards_buffer : goal.returns-then-not-guards_buffer
returns-then-not-guards_buffer c =
    let l : c.loop-buffer.buffer < length c.args.program.now.buffers = let e = ap (λ (b : List Buffer). length b) c.as_slice-buffer-end.ensures in let t = c.loop-buffer-test.true in omega arith in
    one_fails c.args.program.now c.args.order.now c.loop-buffer.buffer c.loop-buffer.pair l c.loop-buffer.invariant.many (sym c.if-not-guards_buffer.ensures)

pub overflow_add-pair : goal.overflow_add-pair
overflow_add-pair c =
    let f : c.loop-buffer.pair + length (readers_from 0 c.args.program.now.seqs c.loop-buffer.buffer) ≤ length c.args.program.now.pairs =
    fits c.args.program.now c.args.order.now c.loop-buffer.pair (readers_from 0 c.args.program.now.seqs c.loop-buffer.buffer) (sym c.if-not-guards_buffer.ensures) c.loop-buffer.invariant.few in
    let n = c.count_readers-pair.ensures in
    grind (arith, f, n)

pub loop-buffer-preserved : goal.loop-buffer-preserved
loop-buffer-preserved c =
    let f : c.loop-buffer.pair + length (readers_from 0 c.args.program.now.seqs c.loop-buffer.buffer) ≤ length c.args.program.now.pairs =
    fits c.args.program.now c.args.order.now c.loop-buffer.pair (readers_from 0 c.args.program.now.seqs c.loop-buffer.buffer) (sym c.if-not-guards_buffer.ensures) c.loop-buffer.invariant.few in
    let n = c.count_readers-pair.ensures in
    record {
      right = right_more c.args.program.now c.args.order.now c.loop-buffer.buffer c.loop-buffer.pair c.loop-buffer.invariant.right c.loop-buffer.invariant.many (sym c.if-not-guards_buffer.ensures);
      many = many_more c.args.program.now c.args.order.now c.loop-buffer.buffer c.loop-buffer.pair c.count_readers-pair.result c.loop-buffer.invariant.many n;
      few = omega (arith, f, n);
    }
