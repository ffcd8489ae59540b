use Rattle.std.proofs.Common.{◌≡◌, drop}
use Rattle.program_walks.specs.Walks.{all_at}
use Rattle.check_laws.specs.Tests.{is_called}
use Rattle.macro_check.proofs.calling.are_called.Given as goal

-- the operations that are left decide
abbrev pub invariant-loop-operation : goal.invariant-loop-operation
invariant-loop-operation l = all_at (λ v x. is_called l.program v x) l.operation (drop l.operation l.vertices) ≡ all_at (λ v x. is_called l.program v x) 0 l.vertices
