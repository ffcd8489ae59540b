use Rattle.flat_laws.proofs.Exact.{exact}
use Rattle.flat_laws.proofs.laws.stands_is_exact.Goals as goal

pub returns : goal.returns
returns c = exact
