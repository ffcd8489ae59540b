-- The law is the lemma.
use Rattle.interleavings.proofs.Cuts.{progress}
use Rattle.interleavings.proofs.consistency.some_sequence_is_ready.Goals as goal

pub returns : goal.returns
returns c = progress
