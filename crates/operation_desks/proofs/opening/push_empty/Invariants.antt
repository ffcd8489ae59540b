use Rattle.std.proofs.Common.{◌≡◌, ◌++◌}
use Rattle.std.specs.Prelude.{replicate}
use Rattle.operation_desks.proofs.opening.push_empty.Given as goal

abbrev pub invariant-loop : goal.invariant-loop
invariant-loop l = l.lens.items ≡ l.initial.lens.items ++ replicate l.counter 0
