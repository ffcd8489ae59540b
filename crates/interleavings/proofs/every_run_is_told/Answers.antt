-- The law is the lemma.
use Rattle.interleavings.proofs.Synchronized.{runs_are_told}
use Rattle.interleavings.proofs.every_run_is_told.Goals as goal

pub returns : goal.returns
returns c = runs_are_told
