use Rattle.sequence_build_laws.specs.Table.{entry_in}
use Rattle.compiler.proofs.Built.{built_so}
use Rattle.compiler.proofs.stages.build_program.Goals as goal

pub build-requires : goal.build-requires
build-requires c = (entry_in c.args.problem.now.durations, c.requires)

pub returns : goal.returns
returns c = built_so c.args.problem.now.flat c.args.problem.now.text.archi c.args.schedule.now c.build.result c.build.ensures.ok c.build.ensures.err
