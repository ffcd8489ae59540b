use Rattle.std.proofs.Common.{ap, ◌∙◌, length}
use Rattle.program_tables.specs.declared.roles.Role.TheVariants.{Called}
use Rattle.program_tables.proofs.Found.{sequence_is, at_is, no_sequence, no_at}
use Rattle.program_tables.proofs.queries.call_of.Goals as goal

pub returns-in-Some-clause-sequence : goal.returns-in-Some-clause-sequence
returns-in-Some-clause-sequence c = sequence_is c.args.program.now Called c.args.operation c.args.marks.now c.in-Some.mark.now c.requires c.in-Some.ensures.value

pub returns-in-Some-clause-at : goal.returns-in-Some-clause-at
returns-in-Some-clause-at c = at_is c.args.program.now Called c.args.operation c.args.marks.now c.in-Some.mark.now c.requires c.in-Some.ensures.value

pub returns-in-None-clause-sequence : goal.returns-in-None-clause-sequence
returns-in-None-clause-sequence c = ap length c.as_slice.ensures ∙ no_sequence c.args.program.now Called c.args.operation c.args.marks.now c.requires c.in-None.ensures.value

pub returns-in-None-clause-at : goal.returns-in-None-clause-at
returns-in-None-clause-at c = no_at c.args.program.now Called c.args.operation c.args.marks.now c.requires c.in-None.ensures.value
