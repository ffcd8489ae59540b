use Rattle.operation_desks.proofs.DelayNumbers.{number_at}
use Rattle.operation_desks.proofs.laying.delay_number.Goals as goal

pub returns : goal.returns
returns c = number_at c.args.vertices.now c.args.numbers.now c.requires c.min.result c.args.v c.min.ensures
