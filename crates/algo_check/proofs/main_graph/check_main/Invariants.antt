use Rattle.std.proofs.Common.{◌≡◌, drop}
use Rattle.algo_rules.specs.Resolved.{no_main}
use Rattle.algo_check.proofs.main_graph.check_main.Given as goal

-- the definitions that are left decide
abbrev pub invariant-loop-def : goal.invariant-loop-def
invariant-loop-def l = no_main l.defs ≡ no_main (drop l.def-index l.defs)
