use Rattle.std.proofs.Common.{◌≡◌, ◌++◌, drop}
use Rattle.std.specs.Prelude.{None}
use Rattle.program_tables.specs.Readings.{readings_in}
use Rattle.program_tables.proofs.readings.push_readings.Given as goal

abbrev pub invariant-loop-mark : goal.invariant-loop-mark
invariant-loop-mark l = l.out.items ++ readings_in l.buffer l.writes l.last (drop l.mark-index l.reads) ≡ l.initial.out.items ++ readings_in l.buffer l.writes None l.reads
