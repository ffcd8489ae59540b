-- Answers of which an error, where there is one, has this property.
use Rattle.std.proofs.Common.{Bool, true, false, Result, Ok, Err}
use Rattle.std.specs.Prelude.{if◌then◌else◌}

abbrev pub OfError : {A E : Type 0} → (E → Type 0) → Result A E → Type 0
OfError P (Ok x) = Unit {0}
OfError P (Err e) = P e

pub record Only {A E : Type 0} (P : E → Type 0) (r : Result A E) : Type 0 where
  pub error : OfError P r

pub ok : {A E : Type 0} {P : E → Type 0} (x : A) → Only P (Ok x)
ok x = record { error = tt }

pub either : {A E : Type 0} {P : E → Type 0} (b : Bool) (x y : Result A E) → Only P x → Only P y → Only P (if b then x else y)
either true x y p q = p
either false x y p q = q
