use Rattle.std.proofs.Common.{◌≡◌, map, take}
use Rattle.flat_laws.specs.Guarded.{shift}
use Rattle.conditioning.proofs.conditions.shift_each.Given as goal

abbrev pub invariant-loop-source : goal.invariant-loop-source
invariant-loop-source l = l.all.items ≡ map (shift l.before) (take l.source-index l.sources)
