-- Why an architecture's text is refused.
use Rattle.text_lines.specs.declared.fault.TextFault.{TextFault}
use Rattle.text_lines.specs.declared.fault.TextError.{TextError}
use Rattle.text_lines.specs.Refusals.{Refusal}
use Rattle.archi_defs.specs.declared.fault.ArchiCause.{ArchiCause}

-- A refusal at a line, from 1; line 0 is the whole text.
abbrev pub ArchiFault : Type 0
ArchiFault = TextFault ArchiCause

-- The refusal of a text, as definitions say it.
abbrev pub ArchiRefusal : Type 0
ArchiRefusal = Refusal ArchiCause

-- What code returns for it, or where memory runs out.
abbrev pub ArchiError : Type 0
ArchiError = TextError ArchiCause
