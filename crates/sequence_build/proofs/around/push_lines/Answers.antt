-- One more line.
use Rattle.sequence_build.specs.Around.{line_of}
use Rattle.sequence_build.proofs.Appending.{mapped}
use Rattle.sequence_build.proofs.around.push_lines.Goals as goal

pub loop-pair-preserved : goal.loop-pair-preserved
loop-pair-preserved c =
    mapped (line_of c.args.line) c.args.pairs.now c.loop-pair.pair-index 0 c.line_of.result c.loop-pair.out.items c.push.new.self.items _
    c.loop-pair-test.true c.line_of.ensures c.in_ok-push.ensures.items c.loop-pair.invariant
