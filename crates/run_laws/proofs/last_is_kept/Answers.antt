use Rattle.run_laws.proofs.Counts.{last_kept}
use Rattle.run_laws.proofs.last_is_kept.Goals as goal

pub returns : goal.returns
returns c = last_kept
