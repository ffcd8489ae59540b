use Rattle.flat_laws.proofs.Following.{fuel-enough}
use Rattle.flat_laws.proofs.UnrolledRows.{table-unroll}
use Rattle.flat_laws.proofs.GuardedRows.{table-guard}
use Rattle.flat_laws.proofs.Listing.{has-operations}
use Rattle.flat_laws.proofs.operations.flat_graph_has_the_operations.Goals as goal

pub returns-clause-operations : goal.returns-clause-operations
returns-clause-operations c = has-operations

pub returns-clause-unrolled : goal.returns-clause-unrolled
returns-clause-unrolled c = table-unroll

pub returns-clause-guarded : goal.returns-clause-guarded
returns-clause-guarded c = table-guard

pub returns-clause-enough : goal.returns-clause-enough
returns-clause-enough c = fuel-enough
