use Rattle.algo_print.proofs.Texts.{next_definition}
use Rattle.algo_print.proofs.print.print_definitions.Goals as goal

pub loop-def-preserved : goal.loop-def-preserved
loop-def-preserved c = next_definition c.args.version c.args.defs.now c.loop-def.def-index c.def-item.result _ _ _ _
    c.as_bytes.ensures.same c.loop-def-test.true c.def-item.is c.in_ok-print_definition.ensures c.loop-def.invariant
