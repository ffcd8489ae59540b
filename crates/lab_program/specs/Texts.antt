-- What the commands answer, as texts.
use Rattle.std.specs.Prelude.{◌≡◌, ◌⊎◌, ℕ, Result, Ok, Err, Vec}
use Rattle.syn_base.specs.Bytes.{Bytes}
use Rattle.self_timed.specs.declared.Schedule.{Schedule}
use Rattle.top_plans.specs.Shelf.{Held}
use Rattle.top_plans.specs.Ending.{Ending, refused, no_memory}
use Rattle.top_plans.specs.Run.{Makes}
use Rattle.top_plans.specs.Status.{Refusal, ending_of}
use Rattle.top_plans.specs.declared.Status.{Status}
use Rattle.lab_plans.specs.Asked.{Asked, IsFoundFor}
use Rattle.lab_plans.specs.Answers.{answer}
use Rattle.lab_plans.specs.Plans.{Asks}

module _ {A : Type 0} where
  -- a text that is to be written is this one, or its status stands for this refusal
  abbrev pub Is : Result Bytes Refusal → Result (Vec ℕ A) Status → Type 0
  Is (Ok bytes) (Ok text) = text.items ≡ bytes
  Is (Err refusal) (Err status) = ending_of status ≡ refused refusal
  Is _ _ = ⊥

  abbrev pub WantsMemory : Result (Vec ℕ A) Status → Type 0
  WantsMemory (Ok text) = ⊥
  WantsMemory (Err status) = ending_of status ≡ no_memory

  -- what is answered, or want of memory
  abbrev pub Gives : Result Bytes Refusal → Result (Vec ℕ A) Status → Type 0
  Gives answered result = WantsMemory result ⊎ Is answered result

  -- what is answered of a schedule that was found for what is asked for
  abbrev pub IsOfFound : Asked → Result (Vec ℕ A) Status → Type 0
  IsOfFound asked result = (s : Schedule) × IsFoundFor asked s × Is (answer asked s) result

  -- the same, or want of memory
  abbrev pub GivesOfFound : Asked → Result (Vec ℕ A) Status → Type 0
  GivesOfFound asked result = WantsMemory result ⊎ IsOfFound asked result

  -- what is asked for was found; where nothing is asked for the status stands for why
  abbrev pub Follows : Result Asked (Ending Refusal) → Result (Vec ℕ A) Status → Type 0
  Follows (Ok asked) result = IsOfFound asked result
  Follows (Err stop) (Ok text) = ⊥
  Follows (Err stop) (Err status) = ending_of status ≡ stop

  -- the plan was carried out up to the text
  abbrev pub Carries : Asks → Held → Held → Result (Vec ℕ A) Status → Type 0
  Carries plan held held' result =
      (made : Result Asked (Ending Refusal)) × Makes held held' plan made × Follows made result
