use Rattle.std.proofs.Common.{◌≡◌, ◌++◌, drop}
use Rattle.algo_check.specs.Placing.{unknown_in, places_in}
use Rattle.algo_check.proofs.links.places_of_lines.Given as goal

abbrev pub invariant-loop-mention : goal.invariant-loop-mention
invariant-loop-mention l = record {
  known : unknown_in l.names l.mentions ≡ unknown_in l.names (drop l.mention-index l.mentions);
  placed : l.places.items ++ places_in l.names (drop l.mention-index l.mentions) ≡ places_in l.names l.mentions;
}
