-- One more instruction.
use Rattle.std.proofs.Common.{◌≡◌, Some, refl, arith}
use Rattle.std.specs.Prelude.{slice_get}
use Rattle.std.proofs.lemmas.Option.{slice_get_read}
use Rattle.executive_program.proofs.Expanding.{counts_more, one_most}
use Rattle.executive_program.proofs.expand.count_communications.Goals as goal

pub loop-instr-preserved : goal.loop-instr-preserved
loop-instr-preserved c =
    let k = c.loop-instr.instr-index in let x = c.instr-item.result in
    let s : slice_get c.args.list.now k ≡ Some x = slice_get_read c.args.list.now _ k x refl c.loop-instr-test.true c.instr-item.is in
    record {
      counted = counts_more c.args.list.now k c.loop-instr.count c.communications-count.result x s c.loop-instr.invariant.counted c.communications-count.ensures;
      few = let w = one_most c.communications-count.result x c.communications-count.ensures in let i = c.loop-instr.invariant.few in omega arith;
    }
