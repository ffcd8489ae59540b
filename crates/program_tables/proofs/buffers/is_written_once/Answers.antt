use Rattle.std.proofs.Common.{◌∙◌, ap}
use Rattle.std.specs.Prelude.{nat_eq, ◌&&◌}
use Rattle.std.specs.List.{list_all}
use Rattle.program_tables.specs.declared.mark_table.Mark.{Mark}
use Rattle.program_tables.proofs.Buffered.{once_is}
use Rattle.program_tables.proofs.buffers.is_written_once.Goals as goal

pub returns : goal.returns
returns c =
    c.are_one.ensures
    ∙ ap (list_all (λ (m : Mark). nat_eq m.sequence c.args.write.writer && nat_eq m.at c.args.write.at && nat_eq m.port c.args.write.port)) c.requires
    ∙ once_is c.args.program.now c.args.buffer c.args.write.writer c.args.write.at c.args.write.port
