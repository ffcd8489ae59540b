use Rattle.std.proofs.Common.{arith}
use Rattle.conditioning.proofs.Guarding.{merges_more}
use Rattle.conditioning.proofs.merges.add_merges.Goals as goal

pub loop-name-preserved : goal.loop-name-preserved
loop-name-preserved c =
    let s = c.args.switch.now in
    record {
      at = omega (arith, c.loop-name.invariant.at);
      so_far = merges_more s.definition.now s.guards.now s.condition s.values.now s.cases c.args.outs.now c.args.names.now
          c.loop-name.name-index c.loop-name.place c.in_ok-output.output c.len_at-len.result c.name-item.result c.as_slice.result.now
          c.in_ok-merge.field-0 c.loop-name.all.items c.push.new.self.items _
          c.loop-name-test.true c.name-item.is c.loop-name.invariant.at c.in_ok-output.ensures.same c.len_at-len.ensures c.as_slice.ensures
          c.in_ok-merge.ensures c.in_ok-push.ensures.items c.loop-name.invariant.so_far;
    }
