-- One more buffer.
use Rattle.std.proofs.Common.{arith}
use Rattle.sequence_build.proofs.Touching.{list_put, one_left, put_puts, puts_next}
use Rattle.sequence_build.proofs.touched.put_all.Goals as goal

pub loop-buffer-preserved : goal.loop-buffer-preserved
loop-buffer-preserved c =
    puts_next (λ b s. one_left c.args.sequence s b c.loop-buffer.buffer-index 0 c.args.buffers.now c.loop-buffer-test.true) c.loop-buffer.invariant
    (put_puts c.loop-buffer.marks c.put.new.marks c.args.sequence _ c.put.ensures)

pub returns : goal.returns
returns c = list_put c.args.sequence c.loop-buffer.buffer-index c.args.buffers.now (omega (arith, c.loop-buffer-test.false)) c.loop-buffer.invariant
