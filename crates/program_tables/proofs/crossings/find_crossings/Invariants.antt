use Rattle.std.proofs.Common.{◌≡◌, map}
use Rattle.std.specs.List.{range_with_len}
use Rattle.program_tables.specs.Crossings.{crossings_on}
use Rattle.program_tables.proofs.crossings.find_crossings.Given as goal

abbrev pub invariant-loop-medium : goal.invariant-loop-medium
invariant-loop-medium l = l.rows.items ≡ map (crossings_on l.program) (range_with_len 0 l.medium)
