-- Prologues and loops together.
use Rattle.std.proofs.Common.{ℕ, ◌+◌, ◌*◌, ◌-◌, ◌^◌, min, ap, sym, ◌∙◌}
use Rattle.executive_program.specs.Sizes.{plain_prologues, plain_turns, deep_pairs}
use Rattle.semaphore_core.proofs.Counting.{total_capped, total_size}
use Rattle.semaphore_core.proofs.totals.total_steps.Goals as goal

pub returns : goal.returns
returns c =
    let p = c.args.program.now in
    let m = 2 ^ 128 - 1 in
    c.saturating_add.ensures
    ∙ (λ i. min (c.plain_prologues.ensures i + (c.saturating_mul.ensures ∙ ap (λ (t : ℕ). min (t * c.args.reactions) m) (c.saturating_add-turns.ensures
    ∙ (λ k. min (c.plain_turns.ensures k + (c.saturating_mul-looks.ensures ∙ ap (λ (d : ℕ). min (d * 2) m) c.deep_pairs.ensures) k) m))) i) m)
    ∙ total_capped (plain_prologues p) (plain_turns p) (deep_pairs p) c.args.reactions m
    ∙ ap (λ (n : ℕ). min n m) (sym (total_size p c.requires c.args.reactions))
