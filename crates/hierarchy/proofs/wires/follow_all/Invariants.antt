use Rattle.std.proofs.Common.{◌≡◌, map, take}
use Rattle.hierarchy.specs.Wires.{led}
use Rattle.hierarchy.proofs.wires.follow_all.Given as goal

abbrev pub invariant-loop-source : goal.invariant-loop-source
invariant-loop-source l = l.all.items ≡ map (led l.level.leds.now l.level.own.now) (take l.source-index l.sources)
