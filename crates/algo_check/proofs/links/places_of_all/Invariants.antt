use Rattle.std.proofs.Common.{◌≡◌, ◌++◌, drop}
use Rattle.algo_check.specs.Placing.{unknown_all, places_all}
use Rattle.algo_check.proofs.links.places_of_all.Given as goal

abbrev pub invariant-loop-def : goal.invariant-loop-def
invariant-loop-def l = record {
  known : unknown_all l.names l.defs ≡ unknown_all l.names (drop l.def-index l.defs);
  placed : l.links.items ++ places_all l.names (drop l.def-index l.defs) ≡ places_all l.names l.defs;
}
