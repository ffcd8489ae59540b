use Rattle.std.proofs.Common.{◌≡◌, drop}
use Rattle.program_walks.specs.Walks.{all_at}
use Rattle.check_laws.specs.Tests.{fits}
use Rattle.macro_check.proofs.fitting.are_fitting.Given as goal

abbrev pub invariant-loop-operation : goal.invariant-loop-operation
invariant-loop-operation l = all_at (λ v x. fits l.program l.vertices v x) l.operation (drop l.operation l.vertices) ≡ all_at (λ v x. fits l.program l.vertices v x) 0 l.vertices
