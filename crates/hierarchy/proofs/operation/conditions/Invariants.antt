use Rattle.std.proofs.Common.{◌≡◌, map, take}
use Rattle.flat_graph.specs.Meaning.{level_guard}
use Rattle.flat_laws.specs.Inlined.{wire_guard}
use Rattle.hierarchy.specs.Wires.{led}
use Rattle.hierarchy.proofs.operation.conditions.Given as goal

abbrev pub invariant-loop-guard : goal.invariant-loop-guard
invariant-loop-guard l = map level_guard l.all.items ≡ map (wire_guard (led l.level.leds.now l.level.own.now)) (take l.guard-index l.guards)
