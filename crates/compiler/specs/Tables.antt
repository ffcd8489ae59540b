-- What reading a sensor table answers.
use Rattle.std.specs.Prelude.{◌≡◌, Result, Ok, Err}
use Rattle.csv.specs.Reading.{default_config, records, strip_bom}
use Rattle.syn_base.specs.Bytes.{Bytes}
use Rattle.syn_base.specs.Rows.{Reactions}
use Rattle.algo_laws.specs.Tree.{Vertex}
use Rattle.algo_laws.specs.Ends.{sensor_lengths}
use Rattle.sensor_table.specs.Answers.{Fails}
use Rattle.sensor_table.specs.SensorTable.{rows_of}
use Rattle.sensor_table.specs.declared.fault.SensorError.{SensorError}

-- the rows of a table for this algorithm or its first refusal; want of memory may come in place of either
abbrev pub MakesTable : Vertex → Bytes → Result Reactions SensorError → Type 0
MakesTable main table (Ok rows) =
    (rows_of main (records default_config (strip_bom table)) ≡ Ok rows) × (rows.lens ≡ sensor_lengths main)
MakesTable main table (Err e) = Fails e (rows_of main (records default_config (strip_bom table)))
