use Rattle.algo_check.proofs.Small.{body_small, small_result}
use Rattle.algo_check.proofs.bodies.ports_of_checked.Goals as goal

pub returns-in-Repeat-clause-small : goal.returns-in-Repeat-clause-small
returns-in-Repeat-clause-small c =
    small_result _ _ c.ports_of_body.ensures
    (body_small c.args.defs.now c.args.line _ c.args.body.now _ _ _ c.in-Repeat.is c.inner_ports.ensures.ports c.requires.read c.requires.passed)
