-- The law is the lemma.
use Rattle.phase_laws.proofs.Ended.{rows_are_taken}
use Rattle.phase_laws.proofs.rows_are_taken.Goals as goal

pub returns : goal.returns
returns c = rows_are_taken
