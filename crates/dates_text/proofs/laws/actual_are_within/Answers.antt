use Rattle.dates_text.proofs.Accepted.{actual_are_within}
use Rattle.dates_text.proofs.laws.actual_are_within.Goals as goal

pub returns : goal.returns
returns c = actual_are_within
