use Rattle.std.proofs.Common.{[]}
use Rattle.flat_laws.proofs.GuardedCounting.{counted-guarded}
use Rattle.flat_laws.proofs.GuardedTrees.{tree-guard}
use Rattle.flat_laws.proofs.guarding.guard_keeps_valid.Goals as goal

pub returns-clause-valid : goal.returns-clause-valid
returns-clause-valid c = tree-guard

pub returns-clause-count : goal.returns-clause-count
returns-clause-count c = counted-guarded [] 0
