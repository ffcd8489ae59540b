use Rattle.algo_check.proofs.Fresh.{name_added}
use Rattle.text_lint.proofs.known.names_of.Goals as goal

pub loop-def-preserved : goal.loop-def-preserved
loop-def-preserved c = name_added _ _ _ _ _ _ _ c.requires c.loop-def-test.true c.def-item.is c.as_bytes.ensures.same c.loop-def.invariant c.in_ok-add.ensures.new c.in_ok-add.ensures.after
