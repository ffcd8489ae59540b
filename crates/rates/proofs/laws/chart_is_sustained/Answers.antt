use Rattle.rates.proofs.laws.chart_is_sustained.Goals as goal
use Rattle.rates.proofs.Whole as whole

pub returns : goal.returns
returns c = whole.chart_is_sustained
