use Rattle.std.proofs.Common.{◌≡◌, ◌+ℤ◌, drop}
use Rattle.syn_base.specs.Arithmetic.{wrapped}
use Rattle.syndex_program.specs.Sums.{total_of}
use Rattle.syndex_program.proofs.commands.load.with_rows.Given as goal

abbrev pub invariant-loop-k : goal.invariant-loop-k
invariant-loop-k l = wrapped (l.sum +ℤ total_of (drop l.k l.rows.reactions)) ≡ wrapped (l.start +ℤ total_of l.rows.reactions)
