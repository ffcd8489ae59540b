use Rattle.std.proofs.Common.{◌∙◌}
use Rattle.std.specs.Prelude.{◌&&◌, nat_eq, nat_lt}
use Rattle.std.specs.List.{list_all}
use Rattle.program_tables.specs.declared.mark_table.Mark.{Mark}
use Rattle.program_walks.specs.Walks.{implies}
use Rattle.program_tables.specs.Marks.{first_at, lone}
use Rattle.program_tables.proofs.Paired.{read_is}
use Rattle.program_tables.proofs.pairs.is_read_between.Goals as goal

pub returns : goal.returns
returns c =
    let t = c.of.ensures ∙ c.requires.tables.full_taken c.args.pair c.requires.within in
    let s = c.of-2.ensures ∙ c.requires.tables.empty_signalled c.args.pair c.requires.within in
    let r = c.requires.reads in
    c.is_read_within.ensures
    ∙ (λ i. lone c.args.reading.sequence (t i) && lone c.args.reading.sequence (s i)
    && list_all (λ (m : Mark). implies (nat_eq m.sequence c.args.reading.sequence) (nat_lt (first_at (t i)) m.at && nat_lt m.at (first_at (s i)))) (r i))
    ∙ read_is c.args.program.now c.args.pair c.args.reading.buffer c.args.reading.sequence
