-- What a job and its flat graph keep is what the law asks for.
use Rattle.std.proofs.Common.{◌≡◌, true, subst}
use Rattle.executive_program.specs.Graph.{Graph}
use Rattle.executive_program.specs.FlatValid.{is_flat}
use Rattle.phase_laws.proofs.Together.{jobs_are_supplied}
use Rattle.phase_laws.proofs.Ended.{rows_are_taken}
use Rattle.phase_laws.proofs.rows_of_job_are_taken.Goals as goal

pub returns : goal.returns
returns c = rows_are_taken c.args.job.now (jobs_are_supplied c.args.job.now c.program.ensures.job (subst (λ (x : Graph). is_flat x ≡ true) c.flat.ensures c.vertices.ensures.valid))
