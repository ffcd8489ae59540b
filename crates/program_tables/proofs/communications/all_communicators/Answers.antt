use Rattle.std.proofs.Common.{arith}
use Rattle.std.proofs.lemmas.Grind.{common_steps}
use Rattle.program_tables.proofs.communications.all_communicators.Goals as goal

pub loop-sequence-preserved : goal.loop-sequence-preserved
loop-sequence-preserved c = grind (arith, common_steps)
