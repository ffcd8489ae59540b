use Rattle.std.proofs.Common.{◌∙◌}
use Rattle.program_walks.specs.Pairs.{is_written_between}
use Rattle.program_tables.proofs.pairs.is_written_right.Goals as goal

pub returns : goal.returns
returns c =
    let w = c.write_of.ensures.writer in
    let a = c.write_of.ensures.at in
    c.is_written_between.ensures ∙ (λ i. is_written_between c.args.program.now c.args.pair (w i) (a i))
