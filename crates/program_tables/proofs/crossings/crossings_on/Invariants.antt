use Rattle.std.proofs.Common.{◌≡◌, map}
use Rattle.std.specs.List.{range_with_len}
use Rattle.program_tables.specs.Crossings.{crossing}
use Rattle.program_tables.proofs.crossings.crossings_on.Given as goal

abbrev pub invariant-loop-number : goal.invariant-loop-number
invariant-loop-number l = l.row.items ≡ map (crossing l.program l.medium) (range_with_len 0 l.number)
