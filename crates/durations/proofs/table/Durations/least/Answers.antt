use Rattle.std.proofs.Common.{sym, ap, ◌∙◌}
use Rattle.durations.specs.Table.{least_of, row_in}
use Rattle.durations.proofs.Least.{is_least, least_bounded, never_none}
use Rattle.durations.proofs.table.Durations.least.Goals as goal

pub returns-in-Some-clause-least : goal.returns-in-Some-clause-least
returns-in-Some-clause-least c = is_least (row_in c.args.self.now c.args.op) c.in-Some.ticks (ap least_of (sym c.row.ensures.same) ∙ sym c.in-Some.ensures)

pub returns-in-Some-clause-bounded : goal.returns-in-Some-clause-bounded
returns-in-Some-clause-bounded c =
    least_bounded c.args.self.now.operators (row_in c.args.self.now c.args.op) c.in-Some.ticks (c.row.ensures.valid c.requires)
    (ap least_of (sym c.row.ensures.same) ∙ sym c.in-Some.ensures)

pub returns-in-None-clause-entry : goal.returns-in-None-clause-entry
returns-in-None-clause-entry c = absurd (never_none (row_in c.args.self.now c.args.op) (c.row.ensures.valid c.requires).some (ap least_of (sym c.row.ensures.same) ∙ sym c.in-None.ensures))

pub returns-in-None-clause-least : goal.returns-in-None-clause-least
returns-in-None-clause-least c = absurd (never_none (row_in c.args.self.now c.args.op) (c.row.ensures.valid c.requires).some (ap least_of (sym c.row.ensures.same) ∙ sym c.in-None.ensures))
