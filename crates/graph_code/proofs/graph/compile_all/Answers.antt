use Rattle.std.proofs.Common.{arith, ◌≤◌, ◌∙◌}
use Rattle.graph_code.proofs.Compiling.{count_more, operations_more, start_count}
use Rattle.graph_code.proofs.graph.compile_all.Goals as goal

pub compile_operation-requires-clause-there : goal.compile_operation-requires-clause-there
compile_operation-requires-clause-there c = omega (arith, start_count c.args.flat.now.vertices c.args.starts.now c.requires.starts)

pub loop-v-preserved : goal.loop-v-preserved
loop-v-preserved c =
    let l = c.loop-v in
    let made = c.in_ok-compile_operation.ensures in
    record {
      count = count_more l.operations.items _ _ l.v l.invariant.count c.in_ok-push.ensures.items;
      values = made.values ∙ l.invariant.values;
      room = omega (arith, made.room, l.invariant.room);
      each = operations_more c.args.flat.now l.sizes.all c.compile_operation.new.sizes.all l.v l.operations.items _ _ l.invariant.count
          made.room made.operation c.in_ok-push.ensures.items l.invariant.each;
    }

pub returns-clause-operations : goal.returns-clause-operations
returns-clause-operations c =
    let l = c.loop-v in
    record {
      count = omega (arith, l.invariant.count, start_count c.args.flat.now.vertices c.args.starts.now c.requires.starts, l.auto.v-end, c.loop-v-test.false);
      each = l.invariant.each;
    }
