use Rattle.flat_laws.proofs.Carries.{carries}
use Rattle.flat_laws.proofs.guarding.guards_are_carried.Goals as goal

pub returns : goal.returns
returns c = carries
