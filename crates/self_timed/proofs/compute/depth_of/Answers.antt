use Rattle.std.proofs.Common.{arith}
use Rattle.self_timed.proofs.Deepest.{deepest_one}
use Rattle.self_timed.proofs.compute.depth_of.Goals as goal

pub loop-buffer-init : goal.loop-buffer-init
loop-buffer-init c = let z = deepest_one c.as_slice-buffer-items.result.now in record { least = omega arith; left = omega arith }
