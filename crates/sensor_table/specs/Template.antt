-- The sensor table of an algorithm, to be filled in.
use Rattle.std.specs.Prelude.{◌≡◌, pos, List, [], ◌∷◌, ◌++◌, map, length, replicate, ℕ, Ok, codes}
use Rattle.csv.specs.Reading.{default_config, records, strip_bom}
use Rattle.csv.specs.Writing.{default_writer, row_text}
use Rattle.syn_base.specs.Bytes.{Bytes}
use Rattle.algo_tree.specs.Tree.{Vertex}
use Rattle.algo_tree.specs.Ends.{sensor_lengths}
use Rattle.sensor_table.specs.Columns.{header_of}
use Rattle.sensor_table.specs.SensorTable.{Record, Row, rows_of}

-- A 0 in each column: the number of the first reaction, and then its values.
abbrev pub zero_record : Vertex → Record
zero_record main = replicate (length (header_of main)) (codes "0")

-- The header, and below it that record.
abbrev pub template_text : Vertex → Bytes
template_text main =
    row_text default_writer (header_of main) ++ row_text default_writer (zero_record main)

-- For each sensor as many zeros as it has elements.
abbrev pub zero_row : List ℕ → Row
zero_row lens = map (λ len. replicate len (pos 0)) lens

-- Read as a table of the same algorithm, its template gives one reaction of zeros.
abbrev pub ReadsBack : Type 0
ReadsBack = (main : Vertex) → rows_of main (records default_config (strip_bom (template_text main)))
    ≡ Ok (record { lens = sensor_lengths main; reactions = zero_row (sensor_lengths main) ∷ [] })
