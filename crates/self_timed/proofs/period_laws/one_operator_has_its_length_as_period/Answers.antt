use Rattle.self_timed.proofs.Alone.{one_operator}
use Rattle.self_timed.proofs.period_laws.one_operator_has_its_length_as_period.Goals as goal

pub returns : goal.returns
returns c = one_operator
