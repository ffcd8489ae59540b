use Rattle.std.proofs.Common.{arith, refl, ◌∙◌}
use Rattle.graph_code.proofs.Running.{put_next, put_done}
use Rattle.graph_code.proofs.fire.run_outputs.Goals as goal

pub loop-output-preserved : goal.loop-output-preserved
loop-output-preserved c =
    let l = c.loop-output in
    record {
      len = c.run_output.ensures.len ∙ l.invariant.len;
      put = λ new rest. l.invariant.put new
          (put_next c.args.outputs.now l.output-index c.output-item.result c.output-item.result l.store c.run_output.new.store new
          c.loop-output-test.true c.output-item.is c.run_output.ensures rest);
    }

pub returns : goal.returns
returns c = c.loop-output.invariant.put c.loop-output.store (put_done c.args.outputs.now c.loop-output.output-index c.loop-output.store (omega arith))
