use Rattle.std.proofs.Common.{◌≡◌, drop}
use Rattle.algo_rules.specs.Links.{too_deep_by}
use Rattle.algo_check.proofs.levels.check_depths.Given as goal

-- the depths that are left decide
abbrev pub invariant-loop-depth : goal.invariant-loop-depth
invariant-loop-depth l = too_deep_by l.depths ≡ too_deep_by (drop l.depth-index l.depths)
