use Rattle.std.proofs.Common.{◌≡◌, ◌++◌, map, drop}
use Rattle.algo_tree.specs.View.{view}
use Rattle.conditioning.specs.Listed.{merges_listed}
use Rattle.conditioning.proofs.merges.add_merges.Given as goal

abbrev pub invariant-loop-name : goal.invariant-loop-name
invariant-loop-name l = record {
  at : l.place ≡ l.name-index;
  so_far : map view l.all.items ++ merges_listed l.switch.definition.now l.switch.guards.now l.switch.condition l.switch.values.now
      l.switch.cases l.outs l.place (drop l.name-index l.names) ≡ map view l.fn.all.items
      ++ merges_listed l.switch.definition.now l.switch.guards.now l.switch.condition l.switch.values.now l.switch.cases l.outs 0 l.names;
}
