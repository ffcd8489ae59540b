use Rattle.std.proofs.Common.{◌*◌, ap, arith}
use Rattle.lower_bound.specs.declared.busiest.Busy.{Busy}
use Rattle.lower_bound.proofs.Low.{few_loads, product_low}
use Rattle.lower_bound.proofs.busiest.busiest_line.Goals as goal

pub longest_busy-most-requires-clause-operators : goal.longest_busy-most-requires-clause-operators
longest_busy-most-requires-clause-operators c =
    (few_loads c.args.flat.now c.args.archi.now c.args.durations.now c.args.schedule.now c.vertices-vertices.ensures.valid
    c.operators-operators.ensures.valid c.operations-operations.ensures.valid c.requires.valid c.args.numbers.now c.requires.report).0

pub longest_busy-most-requires-clause-media : goal.longest_busy-most-requires-clause-media
longest_busy-most-requires-clause-media c =
    (few_loads c.args.flat.now c.args.archi.now c.args.durations.now c.args.schedule.now c.vertices-vertices.ensures.valid
    c.operators-operators.ensures.valid c.operations-operations.ensures.valid c.requires.valid c.args.numbers.now c.requires.report).1

pub overflow_mul-most : goal.overflow_mul-most
overflow_mul-most c =
    let low = product_low c.args.flat.now c.args.archi.now c.args.durations.now c.args.schedule.now c.vertices-vertices.ensures.valid
    c.operators-operators.ensures.valid c.operations-operations.ensures.valid c.requires.valid c.args.numbers.now c.requires.report
    c.args.period.reactions c.requires.few in
    let most = ap (λ (b : Busy). b.ticks * c.args.period.reactions) c.longest_busy-most.ensures in
    record { fits = omega arith }
