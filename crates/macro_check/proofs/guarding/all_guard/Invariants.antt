use Rattle.std.proofs.Common.{◌≡◌, drop}
use Rattle.program_walks.specs.Walks.{all_at}
use Rattle.macro_check.specs.Tabled.{guards_by}
use Rattle.macro_check.proofs.guarding.all_guard.Given as goal

abbrev pub invariant-loop-pair : goal.invariant-loop-pair
invariant-loop-pair l = all_at (guards_by l.program) l.pair (drop l.pair l.readings) ≡ all_at (guards_by l.program) 0 l.readings
