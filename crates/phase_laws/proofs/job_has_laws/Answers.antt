-- What a job and its flat graph keep is what the theorem asks for.
use Rattle.phase_laws.proofs.Together.{job_has_laws}
use Rattle.phase_laws.proofs.job_has_laws.Goals as goal

pub returns : goal.returns
returns c = job_has_laws c.args.job.now c.program.ensures.job c.flat.result.now c.flat.ensures c.vertices.ensures.valid
