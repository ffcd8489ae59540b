use Rattle.lab_program.proofs.commands.report.pace_beside.Goals as goal

pub schedule_period-requires-clause-valid : goal.schedule_period-requires-clause-valid
schedule_period-requires-clause-valid c =
    record { durations = c.args.problem.now.durations; rows = c.operators-columns.ensures.valid; valid = c.in_ok-run.ensures.valid }
