use Rattle.std.proofs.Common.{◌≡◌, ◌++◌, drop, length}
use Rattle.flat_laws.specs.Guarded.{own_guards as guards_owned}
use Rattle.conditioning.proofs.conditions.own_each.Given as goal

abbrev pub invariant-loop-guard : goal.invariant-loop-guard
invariant-loop-guard l = record {
  at : length l.all.items ≡ l.guard-index;
  so_far : l.all.items ++ guards_owned l.guard-index (drop l.guard-index l.guards) ≡ guards_owned 0 l.guards;
}
