use Rattle.std.proofs.Common.{◌≡◌, drop}
use Rattle.durations.specs.Table.{least_of}
use Rattle.durations.proofs.table.least_of.Given as goal
use Rattle.syn_base.specs.Numbers.{lesser}

abbrev pub invariant-loop-entry : goal.invariant-loop-entry
invariant-loop-entry l = lesser l.least (least_of (drop l.entry-index l.entries)) ≡ least_of l.entries
