use Rattle.program_tables.specs.Openings.{IsPassed}
use Rattle.program_tables.proofs.openings.pass_all.Given as goal

abbrev pub invariant-loop-pair : goal.invariant-loop-pair
invariant-loop-pair l = IsPassed l.program l.pair l.passed
