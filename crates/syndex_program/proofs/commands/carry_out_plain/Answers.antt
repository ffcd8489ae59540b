use Rattle.std.proofs.Common.{refl}
use Rattle.syndex_program.proofs.commands.carry_out_plain.Goals as goal

pub plain_status-requires : goal.plain_status-requires
plain_status-requires g c = rw c.in-Plain.is at c.requires

pub returns-in-Plain-clause-ran : goal.returns-in-Plain-clause-ran
returns-in-Plain-clause-ran g c = rw c.in-Plain.is ((λ x. x), c.plain_status.ensures.ran)

pub returns-in-Job-clause-ran : goal.returns-in-Job-clause-ran
returns-in-Job-clause-ran g c = rw c.in-Job.is (tt, refl, refl)
