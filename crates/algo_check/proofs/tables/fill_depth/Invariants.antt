use Rattle.algo_check.specs.Tables.{IsFilling}
use Rattle.algo_check.proofs.tables.fill_depth.Given as goal

abbrev pub invariant-loop-place : goal.invariant-loop-place
invariant-loop-place l = IsFilling l.defs l.depth l.place l.table
