use Rattle.check_places.proofs.Explained.{why_explains}
use Rattle.check_places.proofs.laws.why_explains.Goals as goal

pub returns : goal.returns
returns c = why_explains
