use Rattle.sequence_build.proofs.Numbering.{table_is}
use Rattle.sequence_build.proofs.numbers.numbers_of.Goals as goal

pub returns : goal.returns
returns c = table_is c.in_ok-table.table.items c.args.places.now c.size_for-size.result c.in_ok-table.ensures.many c.in_ok-table.ensures.each c.size_for-size.ensures
