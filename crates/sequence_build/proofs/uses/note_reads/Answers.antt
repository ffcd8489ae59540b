use Rattle.std.proofs.Common.{◌∙◌, arith}
use Rattle.sequence_build.specs.Uses.{uses_at}
use Rattle.sequence_build.proofs.Noting.{noted_next}
use Rattle.sequence_build.proofs.uses.note_reads.Goals as goal

pub loop-buffer-preserved : goal.loop-buffer-preserved
loop-buffer-preserved c = record {
  many = c.note_read.ensures.many ∙ c.loop-buffer.invariant.many;
  left = λ b h. noted_next c.args.place.sequence c.args.place.at b c.loop-buffer.buffer-index c.args.ins.now
      (uses_at c.loop-buffer.uses.items b) (uses_at c.note_read.new.uses.items b) _ c.loop-buffer-test.true
      (c.in_ok-note_read.ensures.noted b (let m = c.loop-buffer.invariant.many in omega arith)) (c.loop-buffer.invariant.left b h);
}
