use Rattle.std.proofs.Common.{◌∙◌}
use Rattle.std.specs.Prelude.{◌&&◌, nat_lt}
use Rattle.program_tables.specs.Marks.{first_at, lone}
use Rattle.program_tables.proofs.Paired.{written_is}
use Rattle.program_tables.proofs.pairs.is_written_between.Goals as goal

pub returns : goal.returns
returns c =
    let t = c.of.ensures ∙ c.requires.tables.empty_taken c.args.pair c.requires.within in
    let s = c.of-2.ensures ∙ c.requires.tables.full_signalled c.args.pair c.requires.within in
    c.is_written_within.ensures
    ∙ (λ i. lone c.args.write.writer (t i) && lone c.args.write.writer (s i) && nat_lt (first_at (t i)) c.args.write.at && nat_lt c.args.write.at (first_at (s i)))
    ∙ written_is c.args.program.now c.args.pair c.args.write.writer c.args.write.at
