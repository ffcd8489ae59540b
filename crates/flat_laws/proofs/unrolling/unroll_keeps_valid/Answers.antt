use Rattle.flat_laws.proofs.UnrolledCounting.{counted-unroll}
use Rattle.flat_laws.proofs.UnrolledTrees.{tree-unroll}
use Rattle.flat_laws.proofs.unrolling.unroll_keeps_valid.Goals as goal

pub returns-clause-valid : goal.returns-clause-valid
returns-clause-valid c = tree-unroll

pub returns-clause-count : goal.returns-clause-count
returns-clause-count c main h = counted-unroll main h.well
