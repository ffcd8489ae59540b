use Rattle.run_laws.proofs.Counts.{numbers_rise}
use Rattle.run_laws.proofs.numbers_rise.Goals as goal

pub returns : goal.returns
returns c = numbers_rise
