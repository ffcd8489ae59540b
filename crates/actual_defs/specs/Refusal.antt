-- The refusal of a text of actual durations as that of an architecture.
use Rattle.archi_defs.specs.Refusals.{ArchiError}
use Rattle.text_lines.specs.declared.fault.TextError.TheVariants as architecture
use Rattle.actual_defs.specs.declared.fault.ActualFault.TheVariants.{Text}
use Rattle.actual_defs.specs.declared.fault.ActualError.{ActualError}
use Rattle.actual_defs.specs.declared.fault.ActualError.TheVariants.{Refused, Limit, OutOfMemory}

-- a limit of the text stays one
abbrev pub text_error : ArchiError → ActualError
text_error (architecture.Refused f) = Refused (Text f)
text_error (architecture.Limit f) = Limit f
text_error architecture.OutOfMemory = OutOfMemory
