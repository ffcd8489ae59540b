use Rattle.syndex_program.proofs.commands.carry_out.Goals as goal

pub plain_status-requires : goal.plain_status-requires
plain_status-requires g c = rw c.in-Plain.is at c.requires

pub job_status-requires : goal.job_status-requires
job_status-requires g c = (c.type_bounds.sync-R, (c.type_bounds.sync-G, rw c.in-Job.is at c.requires))

pub returns-in-Plain-clause-ran : goal.returns-in-Plain-clause-ran
returns-in-Plain-clause-ran g c = rw c.in-Plain.is (c.plain_status.ensures.ran c.args.driven.now)

pub returns-in-Job-clause-ran : goal.returns-in-Job-clause-ran
returns-in-Job-clause-ran g c = rw c.in-Job.is c.job_status.ensures.ran
