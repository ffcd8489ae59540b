use Rattle.std.proofs.Common.{length, ◌∙◌}
use Rattle.lower_bound.specs.Turns.{at}
use Rattle.lower_bound.proofs.Follow.{first_later, found_here, found_never}
use Rattle.lower_bound.proofs.links.latest_operation.Goals as goal

pub returns-then-ends-op : goal.returns-then-ends-op
returns-then-ends-op c = found_here c.args.ends.now c.greatest-latest.result c.loop-op.op c.greatest-latest.ensures c.loop-op-test.true c.loop-op.invariant c.if-ends-op.true

pub loop-op-preserved : goal.loop-op-preserved
loop-op-preserved c = c.loop-op.invariant ∙ first_later (at c.args.ends.now) c.greatest-latest.result c.loop-op.op (length c.args.ends.now) c.loop-op-test.true c.if-ends-op.false

pub returns : goal.returns
returns c = found_never c.args.ends.now c.greatest-latest.result c.loop-op.op c.greatest-latest.ensures c.loop-op-test.false c.loop-op.invariant
