use Rattle.check_places.proofs.Exact.{why_is_exact}
use Rattle.check_places.proofs.Explained.{why_explains}
use Rattle.check_places.proofs.laws.why_is_exact.Goals as goal

pub returns : goal.returns
returns c = why_is_exact why_explains
