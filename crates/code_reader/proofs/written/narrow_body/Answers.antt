use Rattle.std.proofs.Common.{arith}
use Rattle.std.proofs.lemmas.Grind.{common_steps}
use Rattle.code_reader.proofs.written.narrow_body.Goals as goal

pub loop-written-preserved : goal.loop-written-preserved
loop-written-preserved c = grind (arith, common_steps)
