use Rattle.lower_bound.proofs.Counting.{few_transfers}
use Rattle.lower_bound.proofs.transfers.transfers_of.Goals as goal

pub count_all-requires : goal.count_all-requires
count_all-requires c =
    few_transfers c.args.flat.now c.args.archi.now c.args.durations.now c.args.schedule.now c.vertices-vertices.ensures.valid
    c.operators-operators.ensures.valid c.operations-operations.ensures.valid c.requires.valid c.as_slice-decisions.result.now c.as_slice-decisions.ensures

pub count_of-requires : goal.count_of-requires
count_of-requires c =
    few_transfers c.args.flat.now c.args.archi.now c.args.durations.now c.args.schedule.now c.vertices-vertices.ensures.valid
    c.operators-operators.ensures.valid c.operations-operations.ensures.valid c.requires.valid c.as_slice-decisions.result.now c.as_slice-decisions.ensures

pub count_of-requires-2 : goal.count_of-requires-2
count_of-requires-2 c =
    few_transfers c.args.flat.now c.args.archi.now c.args.durations.now c.args.schedule.now c.vertices-vertices.ensures.valid
    c.operators-operators.ensures.valid c.operations-operations.ensures.valid c.requires.valid c.as_slice-decisions.result.now c.as_slice-decisions.ensures
