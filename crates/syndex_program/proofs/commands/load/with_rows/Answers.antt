use Rattle.std.proofs.Common.{rules, ◌≡◌, ◌∙◌, ◌+◌, ◌+ℤ◌, ◌≤◌, ap, sym, length, arith, drop, to_z, of_z, w64}
use Rattle.std.proofs.Math.Facts.{to_z-of_z}
use Rattle.syn_base.specs.Arithmetic.{wrapped}
use Rattle.syndex_program.specs.Sums.{total_of}
use Rattle.syndex_program.proofs.Summing.{one_row, rows_end}
use Rattle.syndex_program.proofs.commands.load.with_rows.Goals as goal

pub loop-k-preserved : goal.loop-k-preserved
loop-k-preserved c =
    let rows = c.args.rows.now.reactions in
    let s = to_z w64 c.loop-k.sum-bits in
    let e : to_z w64 (of_z w64 c.with_row-sum.result) ≡ c.with_row-sum.result = search (rules, to_z-of_z) in
    ap (λ n. wrapped (n +ℤ total_of (drop (c.loop-k.k + 1) rows))) e
    ∙ one_row s c.with_row-sum.result rows c.loop-k.k c.with_row-sum.ensures
    ∙ c.loop-k.invariant

pub returns : goal.returns
returns c =
    let rows = c.args.rows.now.reactions in
    let s = to_z w64 c.loop-k.sum-bits in
    let l : length rows ≤ c.loop-k.k = omega (arith, c.loop-k-test.false, c.count-k-end.ensures) in
    let e : to_z w64 (of_z w64 c.args.start) ≡ c.args.start = search (rules, to_z-of_z) in
    sym (rows_end s rows c.loop-k.k l) ∙ c.loop-k.invariant ∙ ap (λ n. wrapped (n +ℤ total_of rows)) e
