use Rattle.std.proofs.Common.{ℕ, ap, ◌∙◌}
use Rattle.executive_program.specs.Places.{takes_full}
use Rattle.program_walks.specs.Pairs.{first_place, is_read_within}
use Rattle.program_walks.proofs.guarding.is_read_between.Goals as goal

pub returns : goal.returns
returns c =
    let p = c.args.program.now in let q = c.args.pair in let b = c.args.reading.buffer in let s = c.args.reading.sequence in
    c.is_read_within.ensures
    ∙ (ap (λ (n : ℕ). is_read_within p q b s n c.first_place-signal.result) c.first_place-take.ensures
    ∙ ap (λ (n : ℕ). is_read_within p q b s (first_place p (takes_full q) s) n) c.first_place-signal.ensures)
