use Rattle.std.proofs.Common.{◌≡◌, length}
use Rattle.sensor_table.specs.Reading.{IsReading, left_of}
use Rattle.sensor_table.specs.SensorTable.{rows_after}
use Rattle.sensor_table.proofs.rows.push_rows.Given as goal

-- the rows so far, before those of the records that are left
abbrev pub invariant-loop-record : goal.invariant-loop-record
invariant-loop-record l = record {
  reading : IsReading l.records;
  lens : l.rows.lens ≡ l.fn.rows.lens;
  total : rows_after l.fn.rows (left_of l.fn.records) ≡ rows_after l.rows (left_of l.records);
}

abbrev pub decreases-loop-record : goal.decreases-loop-record
decreases-loop-record l = length (left_of l.records)
