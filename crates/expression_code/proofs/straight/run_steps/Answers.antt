use Rattle.std.proofs.Common.{rules, pos, arith, ◌∙◌}
use Rattle.expression_code.specs.declared.step.Action.TheVariants.{Fill}
use Rattle.expression_code.specs.declared.step.Step.{Step}
use Rattle.expression_code.proofs.Runs.{within_next, end_next, room_next, run_more, same_below}
use Rattle.expression_code.proofs.straight.run_steps.Goals as goal

none : Step
none = record { len = 0; action = Fill (pos 0) }

pub put_step-requires-clause-room : goal.put_step-requires-clause-room
unfolding none
put_step-requires-clause-room c =
    omega (arith, room_next c.loop-step.at c.args.steps.now c.loop-step.step-index none c.loop-step-test.true)

pub overflow_add-at : goal.overflow_add-at
unfolding none
overflow_add-at c =
    search (rules, room_next c.loop-step.at c.args.steps.now c.loop-step.step-index none c.loop-step-test.true)

pub loop-step-preserved : goal.loop-step-preserved
unfolding none
loop-step-preserved c =
    let at = c.loop-step.at in
    let steps = c.args.steps.now in
    let i = c.loop-step.step-index in
    let h = c.loop-step-test.true in
    record {
      within = (within_next at steps i none h c.loop-step.invariant.within).1;
      end = omega (arith, end_next at steps i none h);
      above = omega arith;
      given = same_below at c.args.from c.put_step.new.store c.loop-step.store c.loop-step.invariant.above c.put_step.ensures.given ∙ c.loop-step.invariant.given;
      run = run_more c.args.from at i steps none c.loop-step.store c.put_step.new.store h c.loop-step.invariant.above c.put_step.ensures.given c.put_step.ensures.step c.loop-step.invariant.run;
    }
