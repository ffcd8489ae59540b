use Rattle.std.proofs.Common.{◌≡◌, ◌∙◌, ◌++◌, ◌∷◌, [], ℕ, suc, List, Result, Ok, Err, length, refl, sym, ap, append_assoc}
use Rattle.std.proofs.lemmas.Grind.{common_steps}
use Rattle.std.proofs.Common.{arith}
use Rattle.csv.specs.Records.{fields_of}
use Rattle.syn_base.specs.Rows.{Reactions}
use Rattle.sensor_table.specs.Reading.{left_of}
use Rattle.sensor_table.specs.SensorTable.{Record, Row, before, row_of, rows_after, rows_from, with_value}
use Rattle.sensor_table.specs.declared.fault.SensorError.{SensorError}
use Rattle.sensor_table.proofs.rows.push_rows.Goals as goal

-- a row goes from the front of what is left to the end of what is there
one_over : (rows : List Row) (row : Row) (left : Result (List Row) SensorError)
    → with_value (λ more. rows ++ more) (before (Ok row) left) ≡ with_value (λ more. (rows ++ row ∷ []) ++ more) left
one_over rows row (Err e) = refl
one_over rows row (Ok more) = ap (λ (x : List Row). Ok x) (sym (append_assoc rows (row ∷ []) more))

row_more : (lens : List ℕ) (rows : List Row) (fields : Record) (left : List Record) (row : Row) → row_of lens (length rows) fields ≡ Ok row
    → with_value (λ more. rows ++ more) (rows_from lens (length rows) (fields ∷ left)) ≡ with_value (λ more. (rows ++ row ∷ []) ++ more) (rows_from lens (length (rows ++ row ∷ [])) left)
row_more lens rows fields left row e =
    let long : length (rows ++ row ∷ []) ≡ suc (length rows) = grind (arith, common_steps) in
    rw (e, long) (one_over rows row (rows_from lens (suc (length rows)) left))

-- one more row was pushed
rows_on : (start old new : Reactions) (fields : Record) (all left rest : List Record) → left ≡ fields ∷ rest → old.lens ≡ start.lens
    → ((row : Row) × (row_of old.lens (length old.reactions) fields ≡ Ok row) × (new ≡ record old { reactions = old.reactions ++ row ∷ [] }))
    → rows_after start all ≡ rows_after old left
    → (new.lens ≡ start.lens) × (rows_after start all ≡ rows_after new rest)
rows_on start old new fields all left rest cut same (row, is, after) total =
    (rw after same, rw after (total ∙ rw cut (row_more old.lens old.reactions fields rest row is)))

pub loop-record-preserved : goal.loop-record-preserved
loop-record-preserved c =
    let taken = rw c.in-Some.is at c.in_ok-record.ensures in
    let r = rows_on c.args.rows.now c.loop-record.rows c.push_row.new.rows (fields_of c.in-Some.record)
    (left_of c.args.records.now) (left_of c.loop-record.records) (left_of c.next_record.new.records)
    taken.0 c.loop-record.invariant.lens c.in_ok-push_row.ensures c.loop-record.invariant.total in
    record { reading = taken.1; lens = r.0; total = r.1 }
