use Rattle.std.proofs.Common.{rules, ◌≡◌, ◌∙◌, ◌<◌, ◌≤◌, ◌+◌, ◌∷◌, [], ◌++◌, ℕ, ℤ, List, Result, Ok, Err, w64, to_z, of_z, length, get_or, inl, ap, sym, arith}
use Rattle.std.proofs.lemmas.Int.{to_z-of_z}
use Rattle.csv.specs.Records.{fields_of}
use Rattle.syn_base.specs.Integer.{integer_of}
use Rattle.sensor_table.specs.Answers.{Fails}
use Rattle.sensor_table.specs.SensorTable.{refused, with_error}
use Rattle.sensor_table.specs.declared.fault.SensorCause.{SensorCause}
use Rattle.sensor_table.specs.declared.fault.SensorCause.TheVariants.{BadNumber}
use Rattle.sensor_table.specs.declared.fault.SensorError.{SensorError}
use Rattle.sensor_table.proofs.Values.{values_before, no_value, value_more, value_missing, values_all}
use Rattle.sensor_table.proofs.rows.read_values.Goals as goal

fails : (row column : ℕ) (error : SensorError) (numbers : Result (List ℤ) SensorCause) → numbers ≡ Err (BadNumber column) → error ≡ refused row (BadNumber column)
    → Fails error (with_error (refused row) numbers)
fails row column error numbers e is =
    inl (ap (λ (r : Result (List ℤ) SensorCause). with_error (refused row) r) e ∙ ap (λ (x : SensorError). Err x) (sym is))

pub loop-column-init : goal.loop-column-init
loop-column-init c =
    no_value _ ∙ ap (λ (values : List ℤ). values_before values 1 (fields_of c.args.fields.now)) (sym c.new-values.ensures.items)

pub returns-in-Err : goal.returns-in-Err
returns-in-Err c =
    let fields = fields_of c.args.fields.now in
    let inside : c.loop-column.column < length fields = omega arith in
    let read : Err c.in-Err.field-0 ≡ integer_of (get_or fields c.loop-column.column []) = sym c.in-Err.is ∙ c.read_int.ensures ∙ ap integer_of c.field_at.ensures in
    fails c.args.row c.loop-column.column c.refusal.result _
    (c.loop-column.invariant ∙ value_missing c.loop-column.values.items c.loop-column.column fields c.in-Err.field-0 inside read) c.refusal.ensures

pub loop-column-preserved : goal.loop-column-preserved
loop-column-preserved c =
    let fields = fields_of c.args.fields.now in
    let values = c.loop-column.values.items in
    let inside : c.loop-column.column < length fields = omega arith in
    let read : Ok c.in-Ok.value ≡ integer_of (get_or fields c.loop-column.column []) = sym c.in-Ok.is ∙ c.read_int.ensures ∙ ap integer_of c.field_at.ensures in
    let same : to_z w64 (of_z w64 c.in-Ok.value) ≡ c.in-Ok.value = search (rules, to_z-of_z) in
    let after : c.push.new.self.items ≡ values ++ c.in-Ok.value ∷ [] = c.in_ok-push-in-Ok.ensures.items ∙ ap (λ (v : ℤ). values ++ v ∷ []) same in
    c.loop-column.invariant ∙ value_more values c.loop-column.column fields c.in-Ok.value inside read
    ∙ ap (λ (vs : List ℤ). values_before vs (c.loop-column.column + 1) fields) (sym after)

pub returns : goal.returns
returns c =
    let past : length (fields_of c.args.fields.now) ≤ c.loop-column.column = omega arith in
    ap (λ (r : Result (List ℤ) SensorCause). with_error (refused c.args.row) r)
    (c.loop-column.invariant ∙ values_all c.loop-column.values.items c.loop-column.column (fields_of c.args.fields.now) past)
