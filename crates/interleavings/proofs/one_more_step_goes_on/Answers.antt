-- The law is the lemma.
use Rattle.interleavings.proofs.Synchronized.{runs_go_on}
use Rattle.interleavings.proofs.one_more_step_goes_on.Goals as goal

pub returns : goal.returns
returns c = runs_go_on
