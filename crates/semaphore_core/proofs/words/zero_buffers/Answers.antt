-- One more buffer.
use Rattle.std.proofs.Common.{◌<◌, length, arith, ap}
use Rattle.executive_program.specs.declared.program.Buffer.{Buffer}
use Rattle.std.proofs.Common.{List, ℕ, ◌∙◌}
use Rattle.semaphore_core.proofs.Openings.{buffer_more}
use Rattle.semaphore_core.proofs.words.zero_buffers.Goals as goal
use Rattle.syn_base.specs.Vectors.{zeros}

pub loop-buffer-preserved : goal.loop-buffer-preserved
loop-buffer-preserved c =
    let l : c.loop-buffer.buffer-index
    < length c.args.program.now.buffers = let e = ap (λ (b : List Buffer). length b) c.as_slice-buffer-items.ensures in
    let t = c.loop-buffer-test.true in omega arith in
    buffer_more c.args.program.now c.loop-buffer.buffer-index
    (record { operator = 0; len = 0; depth = 0 }) c.as_slice-buffer-items.result.now c.loop-buffer.all.items c.push.new.self.items c.in_ok-zeros.field-0
    c.as_slice-buffer-items.ensures l c.loop-buffer.invariant (c.in_ok-zeros.ensures ∙ ap (λ (n : ℕ). zeros n) c.in_ok-addressable.ensures) c.in_ok-push.ensures.items
