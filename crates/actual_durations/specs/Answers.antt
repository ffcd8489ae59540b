-- How what was returned stands to what is defined.
use Rattle.std.specs.Prelude.{◌≡◌, ℕ, ◌<◌, List, Option, Some, None, IfSome, Result, Ok, Err, Vec}
use Rattle.actual_defs.specs.declared.fault.ActualFault.{ActualFault}
use Rattle.actual_defs.specs.declared.fault.ActualError.{ActualError}
use Rattle.actual_defs.specs.declared.fault.ActualError.TheVariants.{Refused, Limit, OutOfMemory}

-- this fault, unless memory ran out
abbrev pub IsFault : ActualError → ActualFault → Type 0
IsFault (Refused f) fault = f ≡ fault
IsFault (Limit f) fault = ⊥
IsFault OutOfMemory fault = Unit {0}

-- the fault that is defined, or none, unless memory ran out
abbrev pub Tells : {A : Type 0} → Result A ActualError → Option ActualFault → Type 0
Tells (Ok x) fault = fault ≡ None
Tells (Err (Refused f)) fault = fault ≡ Some f
Tells (Err (Limit f)) fault = ⊥
Tells (Err OutOfMemory) fault = Unit {0}

-- the ticks or the refusal that is defined, unless memory ran out
abbrev pub Gives : {A : Type 0} → Result (Vec ℕ A) ActualError → Result (List ℕ) ActualError → Type 0
Gives (Ok ticks) defined = defined ≡ Ok ticks.items
Gives (Err (Refused f)) defined = defined ≡ Err (Refused f)
Gives (Err (Limit f)) defined = defined ≡ Err (Limit f)
Gives (Err OutOfMemory) defined = Unit {0}

-- where it is on an operator, that is one of this many
abbrev pub IsOneOf : ℕ → Option ℕ → Type 0
IsOneOf operators o = IfSome o (λ p. p < operators)
