use Rattle.flat_laws.proofs.Unroll.{unroll_main-keeps}
use Rattle.flat_laws.proofs.Unrepeated.{no-unroll}
use Rattle.flat_laws.proofs.unrolling.unroll_keeps.Goals as goal

pub returns-clause-kept : goal.returns-clause-kept
returns-clause-kept c = unroll_main-keeps

pub returns-clause-flat : goal.returns-clause-flat
returns-clause-flat c = no-unroll
