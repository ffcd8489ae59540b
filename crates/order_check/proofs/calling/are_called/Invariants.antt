use Rattle.std.proofs.Common.{◌≡◌, drop}
use Rattle.program_walks.specs.Walks.{all_at}
use Rattle.order_check.specs.Calls.{is_called}
use Rattle.order_check.proofs.calling.are_called.Given as goal

-- the operations that are left decide
abbrev pub invariant-loop-operation : goal.invariant-loop-operation
invariant-loop-operation l = all_at (is_called l.program l.vertices) l.operation (drop l.operation l.vertices) ≡ all_at (is_called l.program l.vertices) 0 l.vertices
