use Rattle.std.proofs.Common.{◌≡◌, [], get_or}
use Rattle.semaphore_core.specs.Rows.{with_vector}
use Rattle.semaphore_core.proofs.RowVectors.{half_put}
use Rattle.semaphore_core.proofs.operations.put_row.Given as goal

abbrev pub invariant-loop-j : goal.invariant-loop-j
invariant-loop-j l = l.rows ≡ record l.initial.rows {
  reactions =
      with_vector l.initial.rows.reactions l.reaction l.actuator (half_put l.vector (get_or (get_or l.initial.rows.reactions l.reaction []) l.actuator []) l.j);
}
