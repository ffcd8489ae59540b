use Rattle.std.proofs.Common.{sym, ◌∙◌}
use Rattle.program_walks.proofs.Guarded.{numbered_of, pairs_of, of_pairs}
use Rattle.program_walks.proofs.clauses.pairs_guard.Goals as goal

pub returns-clause-numbered : goal.returns-clause-numbered
returns-clause-numbered c = λ h. numbered_of c.args.program.now c.args.order.now (sym c.are_guarded.ensures ∙ h)

pub returns-clause-sound : goal.returns-clause-sound
returns-clause-sound c = λ h. pairs_of c.args.program.now c.args.order.now (sym c.are_guarded.ensures ∙ h)

pub returns-clause-complete : goal.returns-clause-complete
returns-clause-complete c = λ n h. c.are_guarded.ensures ∙ of_pairs c.args.program.now c.args.order.now n h
