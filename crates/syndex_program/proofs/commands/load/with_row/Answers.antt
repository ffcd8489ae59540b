use Rattle.std.proofs.Common.{rules, ◌≡◌, [], ◌∙◌, ◌+◌, ◌+ℤ◌, ◌≤◌, ap, sym, length, arith, ℤ, List, drop, to_z, of_z, w64}
use Rattle.std.specs.Prelude.{slice_index_or}
use Rattle.std.proofs.Math.Facts.{to_z-of_z}
use Rattle.syn_base.specs.Arithmetic.{wrapped}
use Rattle.algo_tree.specs.Level.{all_joined}
use Rattle.algo_text.specs.Expr.{total}
use Rattle.syndex_program.proofs.Summing.{one_vector, row_ends}
use Rattle.syndex_program.proofs.commands.load.with_row.Goals as goal

pub loop-actuator-preserved : goal.loop-actuator-preserved
loop-actuator-preserved c =
    let row = slice_index_or c.args.rows.now.reactions c.args.k [] in
    let s = to_z w64 c.loop-actuator.sum-bits in
    let e : to_z w64 (of_z w64 c.with_vector-sum.result) ≡ c.with_vector-sum.result = search (rules, to_z-of_z) in
    ap (λ n. wrapped (n +ℤ total (all_joined (drop (c.loop-actuator.actuator + 1) row)))) e
    ∙ one_vector s c.with_vector-sum.result row c.loop-actuator.actuator
    (c.with_vector-sum.ensures ∙ ap (λ (v : List ℤ). wrapped (s +ℤ total v)) c.vector.ensures.value)
    ∙ c.loop-actuator.invariant

pub returns : goal.returns
returns c =
    let row = slice_index_or c.args.rows.now.reactions c.args.k [] in
    let s = to_z w64 c.loop-actuator.sum-bits in
    let many = ap length c.lens-actuator-end.ensures in
    let l : length row ≤ c.loop-actuator.actuator = omega (arith, c.loop-actuator-test.false, c.requires.few, many) in
    let e : to_z w64 (of_z w64 c.args.start) ≡ c.args.start = search (rules, to_z-of_z) in
    sym (row_ends s row c.loop-actuator.actuator l) ∙ c.loop-actuator.invariant ∙ ap (λ n. wrapped (n +ℤ total (all_joined row))) e
