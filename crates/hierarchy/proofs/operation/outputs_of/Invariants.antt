use Rattle.std.proofs.Common.{◌≡◌, map, take}
use Rattle.flat_graph.specs.Meaning.{level_source}
use Rattle.hierarchy.specs.Wires.{led}
use Rattle.hierarchy.proofs.operation.outputs_of.Given as goal

abbrev pub invariant-loop-source : goal.invariant-loop-source
invariant-loop-source l = map level_source l.all.items ≡ map (led l.level.leds.now l.level.own.now) (take l.source-index l.sources)
