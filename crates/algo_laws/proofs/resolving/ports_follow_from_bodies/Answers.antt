use Rattle.algo_laws.proofs.Accepted.{ports_follow}
use Rattle.algo_laws.proofs.resolving.ports_follow_from_bodies.Goals as goal

pub returns : goal.returns
returns c = ports_follow
