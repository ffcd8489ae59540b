use Rattle.text_lines.specs.Text.{is_blank}
use Rattle.text_lines.proofs.Places.{missing_from}
use Rattle.code_lines.proofs.word.word_end.Goals as goal

pub returns-in-None-clause-next : goal.returns-in-None-clause-next
returns-in-None-clause-next c = missing_from is_blank _ _ c.requires c.in-None.ensures
