use Rattle.archi_reader.proofs.ReadBack.{canonical_back, canonical_lines_few}
use Rattle.archi_reader.proofs.laws.one_canonical_text.Goals as goal

pub returns-clause-same : goal.returns-clause-same
returns-clause-same c = canonical_back

pub returns-clause-lines : goal.returns-clause-lines
returns-clause-lines c = canonical_lines_few
