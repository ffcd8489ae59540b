use Rattle.std.proofs.Common.{◌≡◌, ◌++◌, map, drop}
use Rattle.flat_laws.specs.Guarded.{shift, guard_sources}
use Rattle.conditioning.proofs.conditions.inputs_after.Given as goal

abbrev pub invariant-loop-source : goal.invariant-loop-source
invariant-loop-source l = l.all.items ++ map (shift l.before) (drop l.source-index l.sources) ≡ guard_sources l.guards ++ map (shift l.before) l.sources
