use Rattle.macro_check.proofs.Goes.{range_more}
use Rattle.macro_check.proofs.running.all_sequences.Goals as goal

pub loop-sequence-preserved : goal.loop-sequence-preserved
loop-sequence-preserved c = range_more c.loop-sequence.sequence c.loop-sequence.looks.items c.push.new.self.items c.in_ok-push.ensures.items c.loop-sequence.invariant
