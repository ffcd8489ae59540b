use Rattle.std.proofs.Common.{◌≡◌, List, [], drop, subst, arith}
use Rattle.std.proofs.lemmas.Grind.{common_steps}
use Rattle.schedule.specs.declared.decision.Decision.{Decision}
use Rattle.actual_durations.proofs.Filled.{IsFilled, filled}
use Rattle.actual_durations.proofs.operators.operators_of.Goals as goal

pub returns : goal.returns
returns c =
    let none : drop c.loop-decision.decision-index c.args.decisions.now ≡ [] = grind (arith, common_steps) in
    filled c.args.operations c.loop-decision.operators.items c.args.decisions.now
    (subst (λ (left : List Decision). IsFilled c.args.operations c.loop-decision.operators.items left c.args.decisions.now) none c.loop-decision.invariant)
