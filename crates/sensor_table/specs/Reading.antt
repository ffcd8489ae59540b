-- How the records of a text are taken one after another.
use Rattle.std.specs.Prelude.{◌≡◌, ◌+◌, ◌<◌, ℕ, true, List, [], ◌∷◌, length, Option, Some, None, IsSome}
use Rattle.csv.specs.Reading.{
  Ready,
  default_config,
  source_of,
  records_from,
  owned_rows_reader,
  owned_rows_left,
  reader_config,
  reader_state,
  reader_trim,
  is_flexible,
}
use Rattle.csv.specs.Records.{Row, fields_of}
use Rattle.csv.specs.declared.error.ErrorKind.{ErrorKind}
use Rattle.csv.specs.declared.error.ErrorKind.TheVariants as kind
use Rattle.csv.specs.declared.iter.ByteRecordsIntoIter.{ByteRecordsIntoIter}
use Rattle.csv.specs.declared.parser.State.{State}
use Rattle.csv.specs.declared.reader.Trim.TheVariants as trim
use Rattle.std.specs.Borrow.{Bor}
use Rattle.sensor_table.specs.SensorTable.{Record}

-- The records of bytes, over a slice of bytes.
abbrev pub Records : Type 0
Records = ByteRecordsIntoIter (Bor (List ℕ))

-- The bytes that are left to be read.
abbrev pub source : Records → Option (List ℕ)
source rows = source_of (λ s. Some s.now) (owned_rows_reader rows)

-- Each record is taken as it stands, whatever its length.
pub record IsReading (rows : Records) : Type 0 where
  pub trim : reader_trim (owned_rows_reader rows) ≡ trim.None
  pub ready : Ready (owned_rows_reader rows)
  pub config : reader_config (owned_rows_reader rows) ≡ default_config
  pub flexible : is_flexible (owned_rows_reader rows) ≡ true
  pub turns : 0 < owned_rows_left rows
  pub bytes : IsSome (source rows)

abbrev pub records_at : State → Option (List ℕ) → List Record
records_at state None = []
records_at state (Some bytes) = records_from default_config (length bytes + 1) state bytes

-- The records that are left to be taken.
abbrev pub left_of : Records → List Record
left_of rows = records_at (reader_state (owned_rows_reader rows)) (source rows)

-- The first of these records was taken, if there is one.
abbrev pub Takes : List Record → Option Row → Records → Type 0
Takes left None rows = left ≡ []
Takes left (Some row) rows = (left ≡ fields_of row ∷ left_of rows) × IsReading rows

-- The errors that a reading of bytes may give, whatever the lengths of the records.
abbrev pub IsPlain : ErrorKind → Type 0
IsPlain (kind.Io e) = Unit {0}
IsPlain kind.OutOfMemory = Unit {0}
IsPlain _ = ⊥
