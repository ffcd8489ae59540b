use Rattle.std.proofs.Common.{◌∙◌}
use Rattle.std.specs.Prelude.{◌&&◌, slice_get}
use Rattle.std.specs.List.{list_all}
use Rattle.program_tables.specs.declared.mark_table.Mark.{Mark}
use Rattle.executive_program.specs.Instructions.{operator}
use Rattle.program_walks.specs.Buffers.{is_operator}
use Rattle.program_tables.proofs.Buffered.{near_is}
use Rattle.program_tables.proofs.buffers.is_near.Goals as goal

pub returns : goal.returns
returns c =
    let w = c.requires.writes in
    let r = c.requires.reads in
    c.both_near.ensures
    ∙ (λ i. list_all (λ (m : Mark). is_operator (slice_get c.args.program.now.buffers c.args.buffer)
    (operator c.args.program.now m.sequence)) (w i)
    && list_all (λ (m : Mark). is_operator (slice_get c.args.program.now.buffers c.args.buffer) (operator c.args.program.now m.sequence)) (r i))
    ∙ near_is c.args.program.now c.args.buffer
