use Rattle.why_text.proofs.Saying.{lines_say}
use Rattle.why_text.proofs.laws.lines_say.Goals as goal

pub returns : goal.returns
returns c = lines_say
