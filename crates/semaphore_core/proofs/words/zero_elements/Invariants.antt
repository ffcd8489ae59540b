use Rattle.std.proofs.Common.{◌≡◌, ◌++◌}
use Rattle.semaphore_core.specs.Core.{buffer_zeros, wire_zeros}
use Rattle.semaphore_core.proofs.words.zero_elements.Given as goal

abbrev pub invariant-loop-medium : goal.invariant-loop-medium
invariant-loop-medium l = l.all.items ≡ buffer_zeros l.program ++ wire_zeros l.program l.medium
