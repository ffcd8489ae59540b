use Rattle.std.proofs.Common.{sym, ◌∙◌}
use Rattle.order_check.proofs.Transferred.{transfers_of, of_transfers}
use Rattle.order_check.proofs.clauses.transfers_are_right.Goals as goal

pub returns-clause-sound : goal.returns-clause-sound
returns-clause-sound c = λ h. transfers_of c.args.program.now c.args.order.now c.args.media (sym c.are_transfers.ensures ∙ h)

pub returns-clause-complete : goal.returns-clause-complete
returns-clause-complete c = λ h. c.are_transfers.ensures ∙ of_transfers c.args.program.now c.args.order.now c.args.media h
