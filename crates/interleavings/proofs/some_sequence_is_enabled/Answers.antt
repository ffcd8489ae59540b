-- The law is the lemma.
use Rattle.interleavings.proofs.Synchronized.{runs_progress}
use Rattle.interleavings.proofs.some_sequence_is_enabled.Goals as goal

pub returns : goal.returns
returns c = runs_progress
