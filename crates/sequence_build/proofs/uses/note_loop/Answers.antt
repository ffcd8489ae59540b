-- One more instruction.
use Rattle.std.proofs.Common.{arith, ◌∙◌}
use Rattle.sequence_build_laws.specs.Instructions.{reads}
use Rattle.sequence_build.specs.Uses.{uses_at}
use Rattle.sequence_build.proofs.Appending.{uses_next}
use Rattle.sequence_build.proofs.uses.note_loop.Goals as goal

pub loop-at-preserved : goal.loop-at-preserved
loop-at-preserved c = record {
  many = c.note_reading.ensures.many ∙ c.loop-at.invariant.many;
  left = λ b h.
      let there = c.loop-at.invariant.many in
      uses_next (reads b) c.args.sequence c.loop-at.at c.args.turn.now c.index-turn-at.result (uses_at c.loop-at.uses.items b)
      (uses_at c.note_reading.new.uses.items b) _ c.loop-at-test.true c.index-turn-at.is
      (c.in_ok-note_reading.ensures.noted b (omega arith)) (c.loop-at.invariant.left b h);
}
