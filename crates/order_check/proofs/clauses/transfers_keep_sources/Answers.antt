use Rattle.std.proofs.Common.{sym, ◌∙◌}
use Rattle.order_check.proofs.Kept.{kept_of, of_kept}
use Rattle.order_check.proofs.clauses.transfers_keep_sources.Goals as goal

pub returns-clause-sound : goal.returns-clause-sound
returns-clause-sound c = λ h. kept_of c.args.program.now c.args.media (sym c.are_kept.ensures ∙ h)

pub returns-clause-complete : goal.returns-clause-complete
returns-clause-complete c = λ h. c.are_kept.ensures ∙ of_kept c.args.program.now c.args.media h
