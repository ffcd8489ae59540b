use Rattle.std.proofs.Common.{◌≡◌, drop}
use Rattle.algo_rules.specs.Links.{first_of}
use Rattle.algo_rules.specs.Resolved.{faults_at}
use Rattle.algo_check.proofs.tables.check_depth.Given as goal

-- the definitions that are left decide
abbrev pub invariant-loop-place : goal.invariant-loop-place
invariant-loop-place l =
    first_of (faults_at l.defs l.depth l.defs l.levels.depths)
    ≡ first_of (faults_at l.defs l.depth (drop l.place l.defs) (drop l.place l.levels.depths))
