use Rattle.code_lines.proofs.Ascending.{ascending}
use Rattle.code_lines.proofs.numbers.Numbers.of.Goals as goal

pub invariant_of-result : goal.invariant_of-result
invariant_of-result c = ascending c.args.list.items c.requires
