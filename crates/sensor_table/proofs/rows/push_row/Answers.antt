use Rattle.std.proofs.Common.{◌≡◌, ◌∙◌, ◌==◌, ℕ, suc, ℤ, Bool, true, false, List, [], ◌∷◌, length, Result, Ok, Err, refl, sym, ap, arith}
use Rattle.std.specs.Prelude.{if◌then◌else◌}
use Rattle.std.proofs.lemmas.Bool.{eqb-true}
use Rattle.csv.specs.Records.{fields_of}
use Rattle.syn_base.specs.Integer.{integer_of}
use Rattle.sensor_table.specs.SensorTable.{Record, is_number, numbers_from, values_in, with_error, before}
use Rattle.sensor_table.specs.declared.fault.SensorCause.{SensorCause}
use Rattle.sensor_table.specs.declared.fault.SensorCause.TheVariants.{BadIndex}
use Rattle.sensor_table.proofs.rows.push_row.Goals as goal

abbrev or_else : {A E : Type 0} → A → Result A E → A
or_else x (Ok y) = y
or_else x (Err e) = x

same_ok : {A E : Type 0} (x y : A) (r : Result A E) → r ≡ Ok x → r ≡ Ok y → x ≡ y
same_ok x y r e f = ap (or_else x) (sym e ∙ f)

one_more : {E : Type 0} (first : Result ℤ E) (rest : Result (List ℤ) E) (n : ℕ) (values : List ℤ)
    → ((more : List ℤ) → rest ≡ Ok more → length more ≡ n) → before first rest ≡ Ok values → length values ≡ suc n
one_more (Err e) rest n values long h = absurd (cc)
one_more (Ok v) (Err e) n values long h = absurd (cc)
one_more (Ok v) (Ok vs) n values long h = sym (ap length (same_ok _ _ _ refl h)) ∙ ap suc (long vs refl)

-- each field gives a number
numbers_long : (column : ℕ) (fields : Record) (values : List ℤ) → numbers_from column fields ≡ Ok values → length values ≡ length fields
numbers_long column [] values h = sym (ap length (same_ok _ _ _ refl h))
numbers_long column (field ∷ fields) values h = one_more _ (numbers_from (suc column) fields) (length fields) values (numbers_long (suc column) fields) h

chosen : (right number : Bool) (numbers : Result (List ℤ) SensorCause) (other : SensorCause) (values : List ℤ)
    → (if right then (if number then numbers else Err BadIndex) else Err other) ≡ Ok values → (right ≡ true) × (numbers ≡ Ok values)
chosen true true numbers other values h = (refl, h)
chosen true false numbers other values h = absurd (cc)
chosen false number numbers other values h = absurd (cc)

-- a row has a value for each column but the first
values_long : (columns k : ℕ) (fields : Record) (values : List ℤ) → values_in columns k fields ≡ Ok values → suc (length values) ≡ columns
values_long columns k [] values h = absurd (cc)
values_long columns k (index ∷ fields) values h =
    let (right, numbers) = chosen (suc (length fields) == columns) (is_number k (integer_of index)) (numbers_from 1 fields) _ values h in
    ap suc (numbers_long 1 fields values numbers) ∙ eqb-true _ _ right

without_error : {A E F : Type 0} (f : E → F) (r : Result A E) (x : A) → with_error f r ≡ Ok x → r ≡ Ok x
without_error f (Ok y) x h = ap Ok (same_ok _ _ _ refl h)
without_error f (Err e) x h = absurd (cc)

pub push-requires : goal.push-requires
push-requires c =
    let long = values_long c.args.columns c.count-reaction.result (fields_of c.args.fields.now) c.in_ok-values.values.items (without_error _ _ _ c.in_ok-values.ensures) in
    rw c.deref.ensures.value (omega (arith, long, c.requires))
