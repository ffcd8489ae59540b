-- What was returned is what is defined, unless memory ran out.
use Rattle.std.specs.Prelude.{◌≡◌, ◌⊎◌, ◌++◌, ◌∷◌, [], List, Result, Ok, Err}
use Rattle.std.specs.Global.{Vec}
use Rattle.syn_base.specs.Rows.{Reactions}
use Rattle.sensor_table.specs.SensorTable.{Row}
use Rattle.sensor_table.specs.declared.fault.SensorError.{SensorError}
use Rattle.sensor_table.specs.declared.fault.SensorError.TheVariants.{OutOfMemory}

-- The error is the defined one, or want of memory.
abbrev pub Fails : {A : Type 0} → SensorError → Result A SensorError → Type 0
Fails e defined = (defined ≡ Err e) ⊎ (e ≡ OutOfMemory)

-- What is returned is what is defined, or want of memory.
abbrev pub Gives : {A : Type 0} → Result A SensorError → Result A SensorError → Type 0
Gives (Ok x) defined = defined ≡ Ok x
Gives (Err e) defined = Fails e defined

-- The same of a list, which is held in a vector.
abbrev pub GivesList : {A : Type 0} → Result (Vec A) SensorError → Result (List A) SensorError → Type 0
GivesList (Ok xs) defined = defined ≡ Ok xs.items
GivesList (Err e) defined = Fails e defined

-- A row was put after those that were there.
abbrev pub Pushes : Result Row SensorError → Reactions → Reactions → Result (Unit {0}) SensorError → Type 0
Pushes defined old new (Ok _) =
    (row : Row) × (defined ≡ Ok row) × (new ≡ record old { reactions = old.reactions ++ row ∷ [] })
Pushes defined old new (Err e) = Fails e defined

-- The rows are the defined ones, for the same sensors.
abbrev pub Leaves : Result (List Row) SensorError → Reactions → Reactions → Result (Unit {0}) SensorError → Type 0
Leaves defined old new (Ok _) = (new.lens ≡ old.lens) × (defined ≡ Ok new.reactions)
Leaves defined old new (Err e) = Fails e defined
