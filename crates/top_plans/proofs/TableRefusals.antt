-- What a table is refused for is never want of memory.
use Rattle.std.proofs.Common.{ℕ, suc, List, [], ◌∷◌, Result, Ok, Err}
use Rattle.syn_base.specs.declared.limits.LimitFault.{LimitFault}
use Rattle.algo_rules.specs.Tree.{Vertex}
use Rattle.algo_rules.specs.Ends.{sensor_lengths}
use Rattle.command_status.specs.declared.SensorCause.{SensorCause}
use Rattle.command_status.specs.declared.SensorFault.{SensorFault}
use Rattle.command_status.specs.declared.SensorError.{SensorError}
use Rattle.command_status.specs.declared.SensorError.TheVariants.{Refused, Limit, OutOfMemory}
use Rattle.command_status.specs.SensorTable.{Record, refused, with_value, with_error, before, row_in, row_of, rows_from, rows_of}
use Rattle.top_plans.proofs.Only.{Only, ok, either}

abbrev pub Stays : SensorError → Type 0
Stays (Refused fault) = Unit {0}
Stays (Limit fault) = Unit {0}
Stays OutOfMemory = ⊥

valued : {A B : Type 0} (f : A → B) (r : Result A SensorError) → Only Stays r → Only Stays (with_value f r)
valued f (Ok x) p = ok (f x)
valued f (Err e) p = record { error = p.error }

refuses : {A : Type 0} (fault : SensorFault) → Only {A = A} Stays (Err (Refused fault))
refuses fault = record { error = tt }

limits : {A : Type 0} (fault : LimitFault) → Only {A = A} Stays (Err (Limit fault))
limits fault = record { error = tt }

at_row : {A : Type 0} (k : ℕ) (r : Result A SensorCause) → Only Stays (with_error (refused k) r)
at_row k (Ok x) = ok x
at_row k (Err e) = record { error = tt }

first_then : {A : Type 0} (r : Result A SensorError) (more : Result (List A) SensorError) → Only Stays r → Only Stays more → Only Stays (before r more)
first_then (Ok x) more p q = valued (λ xs. x ∷ xs) more q
first_then (Err e) more p q = record { error = p.error }

row_safe : (lens : List ℕ) (k : ℕ) (fields : Record) → Only Stays (row_of lens k fields)
row_safe lens k fields = either _ _ _ (at_row (suc k) (row_in lens k fields)) (limits _)

rows_safe : (lens : List ℕ) (k : ℕ) (records : List Record) → Only Stays (rows_from lens k records)
rows_safe lens k [] = ok []
rows_safe lens k (fields ∷ records) = first_then _ _ (row_safe lens k fields) (rows_safe lens (suc k) records)

pub table_safe : (main : Vertex) (records : List Record) → Only Stays (rows_of main records)
table_safe main [] = record { error = tt }
table_safe main (header ∷ records) = either _ _ _ (valued _ _ (rows_safe (sensor_lengths main) 0 records)) (refuses _)
