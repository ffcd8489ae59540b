use Rattle.std.proofs.Common.{◌∙◌, ap}
use Rattle.std.specs.Prelude.{nat_eq, nat_lt}
use Rattle.std.specs.List.{list_all}
use Rattle.program_tables.specs.declared.mark_table.Mark.{Mark}
use Rattle.program_walks.specs.Walks.{implies}
use Rattle.program_tables.proofs.Buffered.{reads_in_is}
use Rattle.program_tables.proofs.buffers.is_written_first.Goals as goal

pub returns : goal.returns
returns c =
    c.are_after.ensures
    ∙ ap (list_all (λ (m : Mark). implies (nat_eq m.sequence c.args.write.writer) (nat_lt c.args.write.at m.at))) c.requires
    ∙ reads_in_is c.args.program.now c.args.buffer (λ a. nat_lt c.args.write.at a) c.args.write.writer
