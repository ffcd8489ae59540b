use Rattle.std.proofs.Common.{arith}
use Rattle.code_lines.proofs.Lists.{no_more, one_more}
use Rattle.code_lines.proofs.arguments.piece_buffers.Goals as goal

pub returns-in-None : goal.returns-in-None
returns-in-None c = no_more c.args.list.now c.loop-from.from c.piece_end-to.result c.loop-from.numbers.items _ c.loop-from-test.true
    c.piece_end-to.ensures.next c.in-None.ensures c.loop-from.invariant.read

pub loop-from-preserved : goal.loop-from-preserved
loop-from-preserved c = record {
  within = omega (arith, c.piece_end-to.ensures.within);
  read = one_more c.args.list.now c.loop-from.from c.piece_end-to.result c.in-Some.number c.loop-from.numbers.items _ _
      c.loop-from-test.true c.piece_end-to.ensures.next c.in-Some.ensures c.in_ok-push-in-Some.ensures.items c.loop-from.invariant.read;
}
