use Rattle.std.proofs.Common.{sym, ◌∙◌}
use Rattle.program_walks.proofs.Prologues.{opened_of, of_opened}
use Rattle.program_walks.proofs.clauses.prologues_open.Goals as goal

pub returns-clause-sound : goal.returns-clause-sound
returns-clause-sound c = λ h. opened_of c.args.program.now (sym c.are_opened.ensures ∙ h)

pub returns-clause-complete : goal.returns-clause-complete
returns-clause-complete c = λ n h. c.are_opened.ensures ∙ of_opened c.args.program.now n h
