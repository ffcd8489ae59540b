-- One more instruction.
use Rattle.std.proofs.Common.{◌≡◌, [], Some, refl, arith}
use Rattle.std.specs.Prelude.{slice_get}
use Rattle.std.proofs.lemmas.Option.{slice_get_read}
use Rattle.executive_program.proofs.Expanding.{instr_more, counts_more, one_most}
use Rattle.executive_program.proofs.expand.expand_list.Goals as goal

pub loop-instr-preserved : goal.loop-instr-preserved
loop-instr-preserved c =
    let k = c.loop-instr.instr-index in let x = c.instr-item.result in let l = c.loop-instr.invariant in
    let s : slice_get c.args.list.now k ≡ Some x = slice_get_read c.args.list.now _ k x refl c.loop-instr-test.true c.instr-item.is in
    record {
      steps = instr_more c.args.program.now c.args.medium c.args.list.now k c.loop-instr.at.medium c.loop-instr.at.communications
          c.loop-instr.at.before x [] c.loop-instr.out.items c.push_instr.new.out.items s
          l.on l.all l.counted l.steps c.in_ok-push_instr.ensures;
      on = l.on;
      all = l.all;
      counted = counts_more c.args.list.now k c.loop-instr.at.before c.communications.result x s l.counted c.communications.ensures;
      few = let w = one_most c.communications.result x c.communications.ensures in let i = l.few in omega arith;
    }
