-- The law is the lemma.
use Rattle.interleavings.proofs.Cuts.{cuts_are_consistent}
use Rattle.interleavings.proofs.consistency.ready_events_keep_the_cut_consistent.Goals as goal

pub returns : goal.returns
returns c = cuts_are_consistent
