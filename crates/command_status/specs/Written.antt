-- What writing the text that a command made answers.
use Rattle.std.specs.Prelude.{◌≡◌, ℕ, Result, Ok, Err, Vec}
use Rattle.command_plan.specs.Ending.{Ending}
use Rattle.command_plan.specs.Run.{Writes}
use Rattle.command_plan.specs.Sink.{Sunk}
use Rattle.command_status.specs.Status.{Refusal, ending_of}
use Rattle.command_status.specs.declared.status.Status.{Status}

module _ {A : Type 0} where
  -- the text was written; where there is none the ending is why, and nothing is written
  abbrev pub Written : Result (Vec ℕ A) Status → Sunk → Sunk → Ending Refusal → Type 0
  Written (Ok text) sunk sunk' ending = Writes text.items sunk sunk' ending
  Written (Err status) sunk sunk' ending = (ending ≡ ending_of status) × (sunk' ≡ sunk)
