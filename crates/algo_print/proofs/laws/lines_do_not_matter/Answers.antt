use Rattle.algo_print.proofs.Bare.{same_text}
use Rattle.algo_print.proofs.laws.lines_do_not_matter.Goals as goal

pub returns : goal.returns
returns c = same_text
