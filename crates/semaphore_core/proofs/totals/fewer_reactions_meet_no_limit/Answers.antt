-- The law is the lemma.
use Rattle.semaphore_core.proofs.Limits.{fewer_meet_none}
use Rattle.semaphore_core.proofs.totals.fewer_reactions_meet_no_limit.Goals as goal

pub returns : goal.returns
returns c = fewer_meet_none
