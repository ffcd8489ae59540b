-- The law is the lemma.
use Rattle.interleavings.proofs.Synchronized.{reached_find}
use Rattle.interleavings.proofs.each_step_finds_its_own.Goals as goal

pub returns : goal.returns
returns c = reached_find
