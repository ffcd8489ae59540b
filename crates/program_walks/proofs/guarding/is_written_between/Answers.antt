use Rattle.std.proofs.Common.{ℕ, ap, ◌∙◌}
use Rattle.executive_program.specs.Places.{takes_empty}
use Rattle.program_walks.specs.Pairs.{first_place, is_written_within}
use Rattle.program_walks.proofs.guarding.is_written_between.Goals as goal

pub returns : goal.returns
returns c =
    let p = c.args.program.now in let q = c.args.pair in let s = c.args.writing.sequence in let a = c.args.writing.at in
    c.is_written_within.ensures
    ∙ (ap (λ (n : ℕ). is_written_within p q s a n c.first_place-signal.result) c.first_place-take.ensures
    ∙ ap (λ (n : ℕ). is_written_within p q s a (first_place p (takes_empty q) s) n) c.first_place-signal.ensures)
