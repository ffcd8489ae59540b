-- How the error that a check returned stands to the first fault that is defined.
use Rattle.std.specs.Prelude.{◌≡◌, Option, Some}
use Rattle.text_lines.specs.Refusals.{Refused, Limit}
use Rattle.text_lines.specs.declared.fault.TextError.TheVariants as error
use Rattle.algo_text.specs.Refusals.{AlgoError, AlgoRefusal}

-- The error is this refusal, or want of memory.
abbrev pub Tells : AlgoError → Option AlgoRefusal → Type 0
Tells (error.Refused f) defined = defined ≡ Some (Refused f)
Tells (error.Limit f) defined = defined ≡ Some (Limit f)
Tells error.OutOfMemory defined = Unit {0}
