use Rattle.std.proofs.Common.{◌≡◌, ◌++◌, drop}
use Rattle.csv.specs.Records.{fields_of}
use Rattle.sensor_table.specs.SensorTable.{numbers_from, with_value}
use Rattle.sensor_table.proofs.rows.read_values.Given as goal

-- the values so far, before those of the fields that are left
abbrev pub invariant-loop-column : goal.invariant-loop-column
invariant-loop-column l = numbers_from 1 (drop 1 (fields_of l.fields)) ≡ with_value (λ more. l.values.items ++ more) (numbers_from l.column (drop l.column (fields_of l.fields)))
