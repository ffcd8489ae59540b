use Rattle.std.proofs.Common.{ap, ◌∙◌, length}
use Rattle.executive_program.specs.Instructions.{turn}
use Rattle.executive_program.specs.Places.{writer_of}
use Rattle.program_tables.specs.declared.roles.Role.TheVariants.{Written}
use Rattle.program_tables.proofs.Found.{sequence_is, at_is, port_is, no_sequence, no_at, no_port, output_is}
use Rattle.program_tables.proofs.queries.write_of.Goals as goal

pub returns-in-Some-clause-writer : goal.returns-in-Some-clause-writer
returns-in-Some-clause-writer c = sequence_is c.args.program.now Written c.args.buffer c.args.marks.now c.in-Some.mark.now c.requires c.in-Some.ensures.value

pub returns-in-Some-clause-at : goal.returns-in-Some-clause-at
returns-in-Some-clause-at c = at_is c.args.program.now Written c.args.buffer c.args.marks.now c.in-Some.mark.now c.requires c.in-Some.ensures.value

pub returns-in-Some-clause-port : goal.returns-in-Some-clause-port
returns-in-Some-clause-port c =
    port_is c.args.program.now Written c.args.buffer c.args.marks.now c.in-Some.mark.now c.requires c.in-Some.ensures.value
    ∙ output_is c.args.buffer (turn c.args.program.now (writer_of c.args.program.now c.args.buffer))

pub returns-in-None-clause-writer : goal.returns-in-None-clause-writer
returns-in-None-clause-writer c = ap length c.as_slice.ensures ∙ no_sequence c.args.program.now Written c.args.buffer c.args.marks.now c.requires c.in-None.ensures.value

pub returns-in-None-clause-at : goal.returns-in-None-clause-at
returns-in-None-clause-at c = no_at c.args.program.now Written c.args.buffer c.args.marks.now c.requires c.in-None.ensures.value

pub returns-in-None-clause-port : goal.returns-in-None-clause-port
returns-in-None-clause-port c = no_port c.args.program.now Written c.args.buffer c.args.marks.now c.requires c.in-None.ensures.value
    ∙ output_is c.args.buffer (turn c.args.program.now (writer_of c.args.program.now c.args.buffer))
