use Rattle.std.proofs.Common.{◌≡◌, ◌++◌, map}
use Rattle.sensor_table.specs.Columns.{column}
use Rattle.sensor_table.proofs.header.append_elements.Given as goal
use Rattle.syn_base.specs.Numbers.{numbers_below}

-- the columns so far
abbrev pub invariant-loop-j : goal.invariant-loop-j
invariant-loop-j l = l.header.items ≡ l.fn.header.items ++ map (column l.name) (numbers_below l.j)
