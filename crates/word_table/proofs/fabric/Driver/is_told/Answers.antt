use Rattle.std.proofs.Common.{subst}
use Rattle.word_table.specs.Driver.{IsTold}
use Rattle.word_table.proofs.Told.{is_told}
use Rattle.word_table.proofs.fabric.Driver.is_told.Goals as goal

pub returns : goal.returns
returns c = subst IsTold c.self.view_is (is_told c.self.inside.parts c.self.invariant c.job_runs_on_words.ensures)
