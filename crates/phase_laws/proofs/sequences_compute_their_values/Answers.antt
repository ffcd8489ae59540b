-- The law is the lemma.
use Rattle.phase_laws.proofs.OwnValues.{compute_their_values}
use Rattle.phase_laws.proofs.sequences_compute_their_values.Goals as goal

pub returns : goal.returns
returns c = compute_their_values
