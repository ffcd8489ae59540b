use Rattle.compiler.proofs.Refused.{are_known}
use Rattle.compiler.proofs.Sizes.{few_lines}
use Rattle.compiler.proofs.stages.parse_architecture.Goals as goal

pub read_archi-requires : goal.read_archi-requires
read_archi-requires c = few_lines c.args.text.now c.requires

pub returns-clause-known : goal.returns-clause-known
returns-clause-known c = are_known c.accepted_are_durations.ensures c.args.text.now c.read_archi.result c.read_archi.ensures
