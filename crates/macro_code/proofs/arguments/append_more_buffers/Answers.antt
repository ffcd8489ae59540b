-- One more buffer.
use Rattle.macro_code.specs.Text.{buffer_name}
use Rattle.macro_code.proofs.Appending.{word_more}
use Rattle.macro_code.proofs.arguments.append_more_buffers.Goals as goal

pub loop-buffer-preserved : goal.loop-buffer-preserved
loop-buffer-preserved c =
    word_more buffer_name c.args.buffers.now c.loop-buffer.buffer-index 0 c.loop-buffer.out.items c.append.new.out.items c.append_buffer.new.out.items _ c.loop-buffer-test.true
    c.in_ok-append.ensures.text c.in_ok-append_buffer.ensures c.loop-buffer.invariant
