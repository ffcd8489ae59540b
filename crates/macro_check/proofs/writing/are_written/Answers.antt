use Rattle.std.proofs.Common.{sym, ◌∙◌}
use Rattle.macro_check.proofs.Sourced.{written_is}
use Rattle.macro_check.proofs.writing.are_written.Goals as goal

pub returns : goal.returns
returns c =
    c.carry_all.ensures
    ∙ written_is c.args.program.now c.args.tables.now.media c.args.vertices.now c.as_slice.result.now c.args.tables.now.crossings.items c.requires.named
    (sym c.are_buffers.ensures ∙ c.if-not-are_buffers.false) (c.as_slice.ensures.value ∙ c.in_ok-sources.ensures) c.requires.tables.crossings
