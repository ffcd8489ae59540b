use Rattle.std.proofs.Common.{◌≡◌, ◌++◌, map, drop}
use Rattle.flat_laws.specs.Guarded.{shift_guard}
use Rattle.conditioning.proofs.conditions.guards_before.Given as goal

abbrev pub invariant-loop-guard : goal.invariant-loop-guard
invariant-loop-guard l = l.all.items ++ map (shift_guard l.before) (drop l.guard-index l.own) ≡ l.fn.guards ++ map (shift_guard l.before) l.own
