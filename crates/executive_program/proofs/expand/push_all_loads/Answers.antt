-- One more input.
use Rattle.std.proofs.Common.{◌≡◌, ◌-◌, get_or, refl, arith}
use Rattle.interleavings.specs.Owners.{sum_below}
use Rattle.executive_program.specs.Steps.{len_at}
use Rattle.executive_program.proofs.Expanding.{input_more, len_at_more}
use Rattle.executive_program.proofs.expand.push_all_loads.Goals as goal

pub loop-buffer-preserved : goal.loop-buffer-preserved
loop-buffer-preserved c =
    let b = get_or c.args.ins.now c.loop-buffer.buffer-index 0 in
    let m = c.in_ok-push_loads.ensures.made in
    let e = len_at_more c.args.program.now c.args.ins.now c.loop-buffer.buffer-index b c.loop-buffer-test.true refl in
    let first : c.len.result - c.len-begin.result ≡ sum_below (len_at c.args.program.now c.args.ins.now) c.loop-buffer.buffer-index = omega arith in
    record {
      steps = input_more c.args.program.now c.args.call.vertex c.args.call.loads c.args.call.micros c.args.ins.now
          c.loop-buffer.buffer-index b (c.len.result - c.len-begin.result) c.buffer_len-len.result
          c.args.out.now.items c.loop-buffer.out.items c.push_loads.new.out.items c.loop-buffer-test.true refl c.buffer_len-len.ensures
          first c.loop-buffer.invariant.steps c.in_ok-push_loads.ensures.steps;
      made = omega arith;
    }
