use Rattle.lab_program.proofs.commands.report.figures_of.Goals as goal
use Rattle.self_timed.specs.Text.{described_by}

pub report_of-requires-clause-fits : goal.report_of-requires-clause-fits
report_of-requires-clause-fits c = (c.durations_fit.ensures c.args.problem.now.flat (described_by c.args.problem.now.text) c.args.problem.now.durations c.requires.durations).0

pub schedule_period-requires-clause-valid : goal.schedule_period-requires-clause-valid
schedule_period-requires-clause-valid c =
    record { durations = c.args.problem.now.durations; rows = c.operators-columns.ensures.valid; valid = c.requires.valid }
