use Rattle.std.proofs.Common.{◌≡◌, ◌++◌, drop}
use Rattle.algo_check.specs.Placing.{names_of}
use Rattle.algo_check.proofs.names.names_of.Given as goal

abbrev pub invariant-loop-def : goal.invariant-loop-def
invariant-loop-def l = l.names ++ names_of (drop l.def-index l.defs) ≡ names_of l.defs
