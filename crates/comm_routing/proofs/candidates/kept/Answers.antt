use Rattle.std.proofs.Common.{refl}
use Rattle.comm_routing.proofs.candidates.kept.Goals as goal

pub returns : goal.returns
returns c = refl
