use Rattle.std.proofs.Common.{◌∙◌}
use Rattle.program_walks.specs.Buffers.{is_buffer_at}
use Rattle.program_tables.proofs.buffers.is_right.Goals as goal

pub returns : goal.returns
returns c =
    let w = c.write_of.ensures.writer in
    let a = c.write_of.ensures.at in
    let k = c.write_of.ensures.port in
    c.is_right_at.ensures ∙ (λ i. is_buffer_at c.args.program.now c.args.buffer (w i) (a i) (k i))
