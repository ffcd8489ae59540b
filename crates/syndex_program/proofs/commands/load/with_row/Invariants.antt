use Rattle.std.proofs.Common.{◌≡◌, ◌+ℤ◌, drop, []}
use Rattle.std.specs.Prelude.{slice_index_or}
use Rattle.syn_base.specs.Arithmetic.{wrapped}
use Rattle.algo_tree.specs.Level.{all_joined}
use Rattle.algo_text.specs.Expr.{total}
use Rattle.syndex_program.proofs.commands.load.with_row.Given as goal

abbrev pub invariant-loop-actuator : goal.invariant-loop-actuator
invariant-loop-actuator l = wrapped (l.sum +ℤ total (all_joined (drop l.actuator (slice_index_or l.rows.reactions l.k []))))
    ≡ wrapped (l.start +ℤ total (all_joined (slice_index_or l.rows.reactions l.k [])))
