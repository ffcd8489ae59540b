use Rattle.word_rule.proofs.Running.{jobs_run_on_words}
use Rattle.word_rule.proofs.jobs_run_on_words.Goals as goal

pub returns : goal.returns
returns c = jobs_run_on_words
