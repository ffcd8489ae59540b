-- Why an algorithm's text is refused.
use Rattle.text_lines.specs.declared.fault.TextFault.{TextFault}
use Rattle.text_lines.specs.declared.fault.TextError.{TextError}
use Rattle.text_lines.specs.Refusals.{Refusal}
use Rattle.algo_text.specs.declared.fault.AlgoCause.{AlgoCause}

-- A refusal at a line, from 1; line 0 is the whole text.
abbrev pub AlgoFault : Type 0
AlgoFault = TextFault AlgoCause

-- The refusal of a text, as definitions say it.
abbrev pub AlgoRefusal : Type 0
AlgoRefusal = Refusal AlgoCause

-- What code returns for it, or where memory runs out.
abbrev pub AlgoError : Type 0
AlgoError = TextError AlgoCause
