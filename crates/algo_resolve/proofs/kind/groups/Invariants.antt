use Rattle.std.proofs.Common.{◌≡◌, ◌-◌, ◌++◌}
use Rattle.algo_laws.specs.Resolved.{groups}
use Rattle.algo_resolve.proofs.kind.groups.Given as goal

abbrev pub invariant-loop : goal.invariant-loop
invariant-loop l = l.all.items ++ groups (l.depth - l.counter) l.len l.rest ≡ groups l.depth l.len l.values
