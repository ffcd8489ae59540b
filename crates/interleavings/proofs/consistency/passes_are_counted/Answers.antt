-- The law is the lemma.
use Rattle.interleavings.proofs.Counting.{nth_made}
use Rattle.interleavings.proofs.consistency.passes_are_counted.Goals as goal

pub returns : goal.returns
returns c = nth_made
