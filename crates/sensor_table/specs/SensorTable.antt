-- The table of the sensors: the rows that the records of a text give, or why it is refused.
use Rattle.std.specs.Prelude.{
  ◌+◌,
  ◌==◌,
  ℕ,
  suc,
  ℤ,
  pos,
  Bool,
  false,
  nat_lt,
  if◌then◌else◌,
  List,
  [],
  ◌∷◌,
  ◌++◌,
  length,
  sum,
  Result,
  Ok,
  Err,
}
use Rattle.std.specs.Cmp.Lexicographic.{pointwise}
use Rattle.std.specs.Ordering.{int_eq}
use Rattle.std.specs.Str.{bytes_eq}
use Rattle.syn_base.specs.Integer.{integer_of}
use Rattle.syn_base.specs.Limits.{bound_of}
use Rattle.syn_base.specs.Rows.{Reactions, cut}
use Rattle.syn_base.specs.declared.limits.LimitKind.TheVariants as limit
use Rattle.syn_base.specs.declared.integer.NumFault.{NumFault}
use Rattle.algo_tree.specs.Tree.{Vertex}
use Rattle.algo_tree.specs.Ends.{sensor_lengths}
use Rattle.sensor_table.specs.Columns.{header_of}
use Rattle.sensor_table.specs.declared.fault.SensorCause.{SensorCause}
use Rattle.sensor_table.specs.declared.fault.SensorCause.TheVariants.{BadHeader, BadCount, BadIndex, BadNumber}
use Rattle.sensor_table.specs.declared.fault.SensorError.{SensorError}
use Rattle.sensor_table.specs.declared.fault.SensorError.TheVariants.{Refused, Limit}

-- The fields of a record.
abbrev pub Record : Type 0
Record = List (List ℕ)

-- The vectors of one reaction.
abbrev pub Row : Type 0
Row = List (List ℤ)

-- The refusal of a row for this cause. Row 0 is the header, and reaction k has row k + 1.
abbrev pub refused : ℕ → SensorCause → SensorError
refused row cause = Refused (record { row = row; cause = cause })

-- The result with f applied to its value; an error stays as it is.
abbrev pub with_value : {A B E : Type 0} → (A → B) → Result A E → Result B E
with_value f (Ok x) = Ok (f x)
with_value f (Err e) = Err e

-- The result with f applied to its error; a value stays as it is.
abbrev pub with_error : {A E F : Type 0} → (E → F) → Result A E → Result A F
with_error f (Ok x) = Ok x
with_error f (Err e) = Err (f e)

-- The first of these and then the others, or the first error.
abbrev pub before : {A E : Type 0} → Result A E → Result (List A) E → Result (List A) E
before (Err e) more = Err e
before (Ok x) more = with_value (λ xs. x ∷ xs) more

-- The numbers of fields, of which the first stands in this column.
abbrev pub numbers_from : ℕ → Record → Result (List ℤ) SensorCause
numbers_from column [] = Ok []
numbers_from column (field ∷ fields) =
    before (with_error (λ _. BadNumber column) (integer_of field)) (numbers_from (suc column) fields)

-- Whether a field that was read is this number.
abbrev pub is_number : ℕ → Result ℤ NumFault → Bool
is_number n (Ok v) = int_eq v (pos n)
is_number n (Err e) = false

-- The record of reaction k: a field for each column, of which the first is k, and the others are its values.
abbrev pub values_in : ℕ → ℕ → Record → Result (List ℤ) SensorCause
values_in columns k [] = Err (BadCount 0 columns)
values_in columns k (index ∷ fields) =
    if suc (length fields) == columns
    then (if is_number k (integer_of index) then numbers_from 1 fields else Err BadIndex)
    else Err (BadCount (suc (length fields)) columns)

-- The vectors of reaction k, for sensors of these lengths.
abbrev pub row_in : List ℕ → ℕ → Record → Result Row SensorCause
row_in lens k fields = with_value (cut lens) (values_in (suc (sum lens)) k fields)

-- One reaction more than there may be, whatever its record holds.
abbrev pub too_many : SensorError
too_many = Limit
    (record { which = limit.Reactions; count = bound_of limit.Reactions + 1; bound = bound_of limit.Reactions })

-- The vectors of reaction k, for sensors of these lengths, by its record, which is row k + 1 of
-- the table; or the refusal of that row, or of the table if k is no reaction that it may have.
abbrev pub row_of : List ℕ → ℕ → Record → Result Row SensorError
row_of lens k fields =
    if nat_lt k (bound_of limit.Reactions) then with_error (refused (suc k)) (row_in lens k fields) else Err too_many

-- The rows of records, of which the first is that of reaction k.
abbrev pub rows_from : List ℕ → ℕ → List Record → Result (List Row) SensorError
rows_from lens k [] = Ok []
rows_from lens k (fields ∷ records) = before (row_of lens k fields) (rows_from lens (suc k) records)

-- These rows, and then those of the records after them.
abbrev pub rows_after : Reactions → List Record → Result (List Row) SensorError
rows_after old records = with_value (λ more. old.reactions ++ more) (rows_from old.lens (length old.reactions) records)

-- The reactions that the records after the header give for sensors of these lengths, or
-- the first error.
abbrev pub reactions_of : List ℕ → List Record → Result Reactions SensorError
reactions_of lens records = with_value (λ rows. record { lens = lens; reactions = rows }) (rows_from lens 0 records)

-- The record is the header of the sensor table for this main graph, field by field.
abbrev pub is_header : Vertex → Record → Bool
is_header main fields = pointwise bytes_eq fields (header_of main)

-- The reactions of a table of this algorithm with these records.
abbrev pub rows_of : Vertex → List Record → Result Reactions SensorError
rows_of main [] = Err (refused 0 BadHeader)
rows_of main (header ∷ records) =
    if is_header main header then reactions_of (sensor_lengths main) records else Err (refused 0 BadHeader)
