use Rattle.text_lines.proofs.Places.{missing_from}
use Rattle.macro_code.specs.Forms.{is_comma}
use Rattle.code_lines.proofs.arguments.piece_end.Goals as goal

pub returns-in-None-clause-next : goal.returns-in-None-clause-next
returns-in-None-clause-next c = missing_from is_comma _ _ c.requires c.in-None.ensures
