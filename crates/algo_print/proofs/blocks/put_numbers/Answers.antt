use Rattle.std.proofs.Common.{◌≡◌, get_or, pos, to_z, of_z, w64, rules}
use Rattle.std.proofs.lemmas.Int.{to_z-of_z}
use Rattle.algo_print.proofs.Texts.{next_number}
use Rattle.algo_print.proofs.blocks.put_numbers.Goals as goal

pub loop-value-preserved : goal.loop-value-preserved
loop-value-preserved c =
    let here = get_or c.args.values.now c.loop-value.value-index (pos 0) in
    let back : to_z w64 (of_z w64 here) ≡ here = search (rules, to_z-of_z) in
    next_number c.args.values.now c.loop-value.value-index _ _ _ _ c.loop-value-test.true back c.in_ok-put_number.ensures c.loop-value.invariant
