use Rattle.std.proofs.Common.{◌≡◌, ◌+ℤ◌, drop}
use Rattle.syn_base.specs.Arithmetic.{wrapped}
use Rattle.algo_text.specs.Expr.{total}
use Rattle.syndex_program.proofs.commands.load.with_vector.Given as goal

abbrev pub invariant-loop-element : goal.invariant-loop-element
invariant-loop-element l = wrapped (l.sum +ℤ total (drop l.element-index l.vector)) ≡ wrapped (l.start +ℤ total l.vector)
