use Rattle.std.proofs.Common.{arith}
use Rattle.std.proofs.lemmas.Grind.{common_steps}
use Rattle.sequence_build.proofs.around.opening_of.Goals as goal

pub loop-pair_number-preserved : goal.loop-pair_number-preserved
loop-pair_number-preserved c = grind (arith, common_steps)
