use Rattle.accepted_laws.proofs.Tables.{tables_fit}
use Rattle.accepted_laws.proofs.tables_fit.Goals as goal

pub returns : goal.returns
returns c = tables_fit
