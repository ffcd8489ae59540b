-- Without looks, and the looks.
use Rattle.std.proofs.Common.{ℕ, ◌≡◌, List, get_or, ap, ◌∙◌, arith}
use Rattle.std.specs.List.{sum_by}
use Rattle.executive_program.specs.declared.program.SeqCode.{SeqCode}
use Rattle.executive_program.specs.Sizes.{looks_in, turn_looks}
use Rattle.executive_program.proofs.MicroCounts.{all_turns_size, looks_by_table}
use Rattle.executive_program.proofs.sizes.turn_micros.Goals as goal

pub returns : goal.returns
returns c =
    let p = c.args.program.now in
    let e = all_turns_size p in
    let t : sum_by (λ (q : SeqCode). looks_in (λ r. get_or c.args.depths.now r 1) q.turn) p.seqs ≡ turn_looks p
    = ap (λ (d : List ℕ). sum_by (λ (q : SeqCode). looks_in (λ r. get_or d r 1) q.turn) p.seqs) c.requires ∙ looks_by_table p in
    let a = c.plain_turns.ensures in let b = c.turn_looks.ensures in let s = c.saturating_add.ensures in
    omega arith
