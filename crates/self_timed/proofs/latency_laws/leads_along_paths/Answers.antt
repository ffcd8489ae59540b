use Rattle.self_timed.proofs.Paths.{leads_along_paths}
use Rattle.self_timed.proofs.latency_laws.leads_along_paths.Goals as goal

pub returns : goal.returns
returns c = leads_along_paths
