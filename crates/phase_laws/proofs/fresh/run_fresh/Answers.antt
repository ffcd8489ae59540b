-- The law of the job, at the whole list.
use Rattle.phase_laws.proofs.fresh.run_fresh.Goals as goal

pub returns-clause-taken : goal.returns-clause-taken
returns-clause-taken c = c.rows_of_job_are_taken.ensures c.args.list.now
