-- The values that fields give, one after another.
use Rattle.std.proofs.Common.{◌≡◌, ◌∙◌, ◌+◌, ◌<◌, ◌≤◌, ◌++◌, ◌∷◌, [], ℕ, suc, ℤ, List, Result, Ok, Err, length, drop, get_or, refl, sym, ap, append_assoc, add-one}
use Rattle.std.proofs.lemmas.List.{append-nil, drop_more, drop_all}
use Rattle.syn_base.specs.Integer.{integer_of}
use Rattle.syn_base.specs.declared.integer.NumFault.{NumFault}
use Rattle.sensor_table.specs.SensorTable.{Record, before, numbers_from, with_error, with_value}
use Rattle.sensor_table.specs.declared.fault.SensorCause.{SensorCause}
use Rattle.sensor_table.specs.declared.fault.SensorCause.TheVariants.{BadNumber}

-- these values, before those of the fields from this column on
abbrev pub values_before : List ℤ → ℕ → Record → Result (List ℤ) SensorCause
values_before values column fields = with_value (λ more. values ++ more) (numbers_from column (drop column fields))

-- the same, where the field in this column was read
abbrev values_with : List ℤ → ℕ → Record → Result ℤ NumFault → Result (List ℤ) SensorCause
values_with values column fields read =
    with_value (λ more. values ++ more) (before (with_error (λ _. BadNumber column) read) (numbers_from (suc column) (drop (column + 1) fields)))

read_here : (values : List ℤ) (column : ℕ) (fields : Record) (read : Result ℤ NumFault) → column < length fields
    → read ≡ integer_of (get_or fields column []) → values_before values column fields ≡ values_with values column fields read
read_here values column fields read h e =
    ap (λ (left : Record). with_value (λ more. values ++ more) (numbers_from column left)) (drop_more fields column [] h)
    ∙ ap (values_with values column fields) (sym e)

one_over : (values : List ℤ) (value : ℤ) (left : Result (List ℤ) SensorCause)
    → with_value (λ more. values ++ more) (before (Ok value) left) ≡ with_value (λ more. (values ++ value ∷ []) ++ more) left
one_over values value (Err e) = refl
one_over values value (Ok more) = ap (λ (x : List ℤ). Ok x) (sym (append_assoc values (value ∷ []) more))

-- none was read
pub no_value : (r : Result (List ℤ) SensorCause) → r ≡ with_value (λ more. [] ++ more) r
no_value (Ok x) = refl
no_value (Err e) = refl

-- one more value was read
pub value_more : (values : List ℤ) (column : ℕ) (fields : Record) (value : ℤ) → column < length fields
    → Ok value ≡ integer_of (get_or fields column []) → values_before values column fields ≡ values_before (values ++ value ∷ []) (column + 1) fields
value_more values column fields value h e =
    read_here values column fields (Ok value) h e
    ∙ one_over values value (numbers_from (suc column) (drop (column + 1) fields))
    ∙ ap (λ (n : ℕ). with_value (λ more. (values ++ value ∷ []) ++ more) (numbers_from n (drop (column + 1) fields))) (sym (add-one column))

-- this field gives none
pub value_missing : (values : List ℤ) (column : ℕ) (fields : Record) (fault : NumFault) → column < length fields
    → Err fault ≡ integer_of (get_or fields column []) → values_before values column fields ≡ Err (BadNumber column)
value_missing values column fields fault h e = read_here values column fields (Err fault) h e

-- all were read
pub values_all : (values : List ℤ) (column : ℕ) (fields : Record) → length fields ≤ column → values_before values column fields ≡ Ok values
values_all values column fields h =
    ap (λ (left : Record). with_value (λ more. values ++ more) (numbers_from column left)) (drop_all column fields h)
    ∙ ap (λ (x : List ℤ). Ok x) (append-nil values)
