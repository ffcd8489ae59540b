use Rattle.algo_print.proofs.Back.{reads_back}
use Rattle.algo_print.proofs.laws.canonical_text_reads_back.Goals as goal

pub returns-clause-printable : goal.returns-clause-printable
returns-clause-printable c = λ text defs h. (reads_back text defs h).printable

pub returns-clause-back : goal.returns-clause-back
returns-clause-back c = λ text defs h. (reads_back text defs h).says

pub returns-clause-lines : goal.returns-clause-lines
returns-clause-lines c = λ text defs h. (reads_back text defs h).few
