-- The registers are empty, with their room.
use Rattle.semaphore_core.proofs.OpenStates.{at_opening}
use Rattle.semaphore_core.proofs.own_parts.OwnParts.for_some.Goals as goal

pub returns-clause-opening : goal.returns-clause-opening
returns-clause-opening c = let o = c.in_ok-for_some.ensures in
    at_opening c.args.job.now _ c.flat.ensures c.args.steps.now c.in_ok-all_registers.field-0.items c.in_ok-all_registers.ensures c.in_ok-for_some.field-0 o.cells o.ready
