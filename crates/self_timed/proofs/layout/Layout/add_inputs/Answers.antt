use Rattle.std.proofs.Common.{arith}
use Rattle.std.proofs.lemmas.Grind.{common_steps}
use Rattle.self_timed.proofs.layout.Layout.add_inputs.Goals as goal

pub loop-input-preserved : goal.loop-input-preserved
loop-input-preserved c = grind (arith, common_steps)
