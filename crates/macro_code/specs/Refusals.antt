-- Why a text of macro-code is refused.
use Rattle.text_lines.specs.declared.fault.TextFault.{TextFault}
use Rattle.text_lines.specs.declared.fault.TextError.{TextError}
use Rattle.text_lines.specs.Refusals.{Refusal}
use Rattle.macro_code.specs.declared.fault.CodeCause.{CodeCause}

-- A refusal at a line, from 1.
abbrev pub CodeFault : Type 0
CodeFault = TextFault CodeCause

-- The refusal of a text, as definitions say it.
abbrev pub CodeRefusal : Type 0
CodeRefusal = Refusal CodeCause

-- What code returns for it, or where memory runs out.
abbrev pub CodeError : Type 0
CodeError = TextError CodeCause
