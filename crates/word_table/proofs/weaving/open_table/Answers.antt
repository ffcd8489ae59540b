use Rattle.std.proofs.Common.{ℕ, length, replicate, ap, arith, ◌∙◌}
use Rattle.std.proofs.lemmas.List.{length-replicate}
use Rattle.word_table.proofs.weaving.open_table.Goals as goal

pub open-requires-clause-zeros : goal.open-requires-clause-zeros
open-requires-clause-zeros c = c.as_slice.ensures.value ∙ c.in_ok-words.ensures ∙ ap (λ (n : ℕ). replicate {A = ℕ} n 0) c.requires.len

pub returns-clause-few : goal.returns-clause-few
returns-clause-few c =
    let small = c.in_ok-words.words.small in
    let many = ap (length {A = ℕ}) c.in_ok-words.ensures ∙ length-replicate c.args.len 0 ∙ c.requires.len in
    omega (arith, small, many)
