-- At most 2,048 operations.
use Rattle.std.proofs.Common.{List, length, ap, arith}
use Rattle.executive_program.specs.declared.Vertex.{Vertex}
use Rattle.semaphore_core.proofs.Counting.{few_operations}
use Rattle.semaphore_core.proofs.totals.taken_elements.Goals as goal

pub returns-clause-bound : goal.returns-clause-bound
returns-clause-bound c =
    let few = few_operations c.args.flat.now c.vertices-vertices.ensures.valid in
    let same = ap (λ (xs : List Vertex). length xs) c.vertices-vertices.ensures.same in
    omega arith
