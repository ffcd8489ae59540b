use Rattle.self_timed.proofs.Dated.{places_of_archi}
use Rattle.self_timed.proofs.compute.dates_at_depth.Goals as goal

pub dates_with-requires-clause-depth : goal.dates_with-requires-clause-depth
dates_with-requires-clause-depth c = places_of_archi c.args.flat.now c.args.archi.now c.args.schedule.now c.depth.result c.depth.ensures.valid c.depth.ensures.same
