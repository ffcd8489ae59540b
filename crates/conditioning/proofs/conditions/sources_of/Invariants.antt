use Rattle.std.proofs.Common.{◌≡◌, take}
use Rattle.flat_laws.specs.Guarded.{guard_sources}
use Rattle.conditioning.proofs.conditions.sources_of.Given as goal

abbrev pub invariant-loop-guard : goal.invariant-loop-guard
invariant-loop-guard l = l.all.items ≡ guard_sources (take l.guard-index l.guards)
