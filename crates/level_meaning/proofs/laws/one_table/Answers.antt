use Rattle.std.proofs.Common.{length, arith}
use Rattle.level_meaning.proofs.Fuel.{unique}
use Rattle.level_meaning.proofs.laws.one_table.Goals as goal

pub returns : goal.returns
returns c cs row st ins expected acyclic meets r lt = unique cs row st ins expected meets (length cs) (length cs) r (acyclic r lt) (omega arith)
