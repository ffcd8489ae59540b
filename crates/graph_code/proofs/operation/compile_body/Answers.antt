use Rattle.flat_graph.specs.Expr.{view}
use Rattle.std.proofs.Common.{map, arith, ◌≤◌, ◌∙◌, sym, subst}
use Rattle.graph_code.specs.Compiled.{EachFrom, IsOutputAt}
use Rattle.graph_code.proofs.Compiling.{count_more, outputs_more}
use Rattle.graph_code.proofs.operation.compile_body.Goals as goal

pub loop-port-preserved : goal.loop-port-preserved
loop-port-preserved c =
    let l = c.loop-port in
    let made = c.in_ok-compile_output.ensures in
    record {
      count = count_more l.outputs.items _ _ l.port l.invariant.count c.in_ok-push.ensures.items;
      values = made.values ∙ l.invariant.values;
      room = omega (arith, made.room, l.invariant.room);
      each = outputs_more c.args.inputs.now c.compile_output.new.sizes.values l.sizes.all c.compile_output.new.sizes.all c.args.start
          c.args.outs.now c.args.body.now l.port c.index-body-port.result c.in_ok-to.to l.outputs.items _ _
          c.loop-port-test.true c.index-body-port.is l.invariant.count made.room c.in_ok-to.ensures made.output c.in_ok-push.ensures.items
          (subst (λ w. EachFrom (IsOutputAt c.args.inputs.now w l.sizes.all c.args.start c.args.outs.now (map view c.args.body.now)) 0 l.outputs.items) (sym made.values) l.invariant.each);
    }
