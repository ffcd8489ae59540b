use Rattle.std.proofs.lemmas.Option.{slice_get-get_or}
use Rattle.check_places.proofs.ByReading.{low}
use Rattle.check_places.proofs.pairs.first_pair.Goals as goal

pub pair_place-requires-clause-within : goal.pair_place-requires-clause-within
pair_place-requires-clause-within c =
    low c.args.program.now c.args.found.now c.requires.all c.loop-pair.pair _ (slice_get-get_or c.args.found.now c.loop-pair.pair _ c.loop-pair-test.true)
