use Rattle.std.proofs.Common.{◌≡◌}
use Rattle.worked_programs.proofs.texts.with_rows.Given as goal

abbrev pub invariant-loop-row : goal.invariant-loop-row
invariant-loop-row g l = l.sensed.lens ≡ l.fn.sensed.lens
