use Rattle.std.proofs.Common.{sym, ◌∙◌}
use Rattle.program_walks.proofs.Written.{buffers_of, of_buffers}
use Rattle.program_walks.proofs.clauses.buffers_are_right.Goals as goal

pub returns-clause-sound : goal.returns-clause-sound
returns-clause-sound c = λ h. buffers_of c.args.program.now c.args.order.now (sym c.are_right.ensures ∙ h)

pub returns-clause-complete : goal.returns-clause-complete
returns-clause-complete c = λ h. c.are_right.ensures ∙ of_buffers c.args.program.now c.args.order.now h
