use Rattle.word_rule.proofs.Running.{job_runs}
use Rattle.word_rule.proofs.job_runs_on_words.Goals as goal

pub returns : goal.returns
returns c = job_runs c.args.job.now c.program.ensures.job c.flat.result.now c.flat.ensures c.vertices.ensures.valid
