use Rattle.std.proofs.Common.{◌≡◌}
use Rattle.executive_program.specs.Blocks.{blocks}
use Rattle.executive_program.specs.Sizes.{depths_of}
use Rattle.executive_program.proofs.pairs.pair_depths.Given as goal

abbrev pub invariant-loop-b : goal.invariant-loop-b
invariant-loop-b l = l.depths.items ≡ blocks (depths_of l.program) l.b
