use Rattle.std.proofs.Common.{length, ap}
use Rattle.macro_check.proofs.Goes.{starts_here, ends_here, popped_none}
use Rattle.macro_check.proofs.running.run_through.Goals as goal

pub loop-sequence-init : goal.loop-sequence-init
loop-sequence-init c = starts_here c.args.program.now
    (length c.as_slice-count.result.now) c.new-order.result.items c.in_ok-done.done.items c.in_ok-looks.looks.items
    (ap length c.as_slice-count.ensures) c.new-order.ensures.items c.in_ok-done.ensures c.in_ok-looks.ensures

pub returns : goal.returns
returns c = ends_here c.args.program.now c.loop-sequence.order.items c.loop-sequence.done.items c.loop-sequence.looks.items
    c.loop-sequence.invariant (popped_none _ c.loop-sequence.looks.items c.pop.new.self.items c.in_default.ensures.cases.0
    c.in_default.ensures.items c.in_default.ensures.rest)
