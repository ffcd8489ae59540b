-- The law is the lemma.
use Rattle.phase_laws.proofs.Ended.{runs_take_rows}
use Rattle.phase_laws.proofs.runs_take_rows.Goals as goal

pub returns : goal.returns
returns c = runs_take_rows
